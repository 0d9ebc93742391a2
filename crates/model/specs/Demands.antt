-- What is promised: of every step at every store, and of every sequence of steps from a fresh store, refused steps included.
use Rattle.std.specs.Prelude.{ℕ, ◌≤◌, ◌<◌, ◌≡◌, true, false, ◌&&◌, ◌↔◌, ◌≢◌, ◌⊎◌, List, [], ◌∷◌, map, ltb}
use Rattle.std.proofs.Math.Option.{none, some}
use Rattle.base_lists.specs.Lists.{member, least, pick, Among, Rising}
use Rattle.model.specs.Store.{Sizes, Chains, IndexRead, ReadRecord, Txn, Open, Collected, Store, rank, phase_prepared, phase_installed, same_key}
use Rattle.model.specs.Verdict.{Mark}
use Rattle.model.specs.Seeing.{Live, seen, visible, first_visible, version_of, key_at, pending, matches, record_of, shows, snapshot_now}
use Rattle.model.specs.Steps.{has_read, posted_rows, version_rows, made_rows, old_key, key_before, read_buckets, needed_buckets}
use Rattle.model.specs.Upstream.{creator_visible, row_visible, first_row, pointer, matches_row, Event, postings_of, posting_replay, live_rows, snapshot_rows}
use Rattle.model.specs.Upstream.{Coherent, stamp_at, raw_candidates}
use Rattle.model.specs.Refusals.{Step, begin, capture, collect, rows, write, prepare, install, end, publish, validate, abort, Refusal, WrongShape, txn_of}
use Rattle.model.specs.Shape.{right_shape}
use Rattle.model.specs.Machine.{Judged, Refused, lent_after, at, actor, accepted, step, step_in, run}
use Rattle.model.specs.History.{changing}
use Rattle.model.specs.Holding.{Writes, Wants, Claims, Gets, Made, ErasesNothing, Unpublished}
use Rattle.model.specs.Given.{number, Names, BucketTaken, RowTaken, GivenWhen, Given, StaleStamp, documented}
use Rattle.model.specs.Effects.{SameVersion}
use Rattle.model.specs.Leaves.{Leaves, MarksOnly}

-- DEMAND 1

-- any step at any store: which number, exactly when and in which order; what it answers; what it leaves of the store and of the lent list
pub record ExactAnswer (s : Store) (a : Step) : Type 0 where
  pub given-when : (n : ℕ) → number s a ≡ n ↔ Given s a n
  pub done-does : number s a ≡ 0 → step s a ≡ accepted s a
  pub done-answers : number s a ≡ 0 → (step s a).answer ≡ documented s a
  pub done-leaves : number s a ≡ 0 → Leaves s a (step s a).store
  pub refused-answers : number s a ≢ 0 → (r : Refusal) × ((step s a).answer ≡ Refused r)
  pub refused-leaves : number s a ≢ 0 → (StaleStamp s a → ⊥) → (step s a).store ≡ s
  pub refused-lent : number s a ≢ 0 → (lent : List ℕ) → lent_after (step s a).answer lent ≡ lent
  pub stale-given : StaleStamp s a → number s a ≡ 8
  pub stale-leaves : StaleStamp s a → MarksOnly s (step s a).store (at s (actor a))

-- the transaction at place i goes on through a step: it is marked afterwards exactly where it was, or where this step of it met a stale stamp
abbrev pub MarkLives : Store → Step → ℕ → Type 0
MarkLives s a i = Live (s.txns i) → ((step s a).store.txns i).number ≡ (s.txns i).number → ((step s a).store.txns i).marked ≡ true
    ↔ ((s.txns i).marked ≡ true) ⊎ ((i ≡ at s (actor a)) × StaleStamp s a)

-- A REACHED STORE

-- its shape is right, so no step there is refused with 16, and the shape test may be left out
pub record Shapely (s : Store) : Type 0 where
  pub shape : right_shape s ≡ true
  pub no-sixteen : (a : Step) → (step s a).answer ≡ Refused WrongShape → ⊥
  pub untested : (a : Step) → step s a ≡ step_in s a

-- nothing held is lost: whoever is named by a holder or a claim is live and needs it, and has all that it needs; from Prepared on a pending row is posted with
-- its old key
pub record NothingLost (s : Store) : Type 0 where
  pub holder-needs : (b : ℕ) → s.held.holder b ≢ 0 → (i : ℕ) × (s.held.holder b ≡ (s.txns i).number) × Wants s.sizes s.index.posted (s.txns i) b
  pub holds : (i b : ℕ) → Wants s.sizes s.index.posted (s.txns i) b → s.held.holder b ≡ (s.txns i).number
  pub claim-needs : (r : ℕ) → s.held.claim r ≢ 0 → (i : ℕ) × (s.held.claim r ≡ (s.txns i).number) × Claims s.sizes (s.txns i) r
  pub claims : (i r : ℕ) → Claims s.sizes (s.txns i) r → s.held.claim r ≡ (s.txns i).number
  pub every-pending : (i r : ℕ) → pending (s.txns i).writes r ≡ true → Writes s.sizes (s.txns i) r
  pub old-prepared : (i r : ℕ) → rank (s.txns i).phase ≡ phase_prepared → Writes s.sizes (s.txns i) r → s.index.posted r ≡ old_key s.chains r
  -- once installed it is headed by a version of its own, over the posted key; or it erases nothing, and no key is posted
  pub made-or-nothing : (i r : ℕ) → Live (s.txns i) → phase_installed ≤ rank (s.txns i).phase → Writes s.sizes (s.txns i) r
      → Made s.sizes s.chains (s.txns i) r ⊎ (ErasesNothing s.chains (s.txns i) r × (s.index.posted r ≡ none))
  pub old-installed : (i r : ℕ) → Live (s.txns i) → phase_installed ≤ rank (s.txns i).phase → Made s.sizes s.chains (s.txns i) r
      → s.index.posted r ≡ key_before s.chains r

-- the claim keeps the head: s₁ is the store in which `prepare t` was accepted, s a later one in which t is live; install and publish see what prepare saw
pub record HeadKept (s₁ s : Store) (t : ℕ) : Type 0 where
  pub writes-stay : (txn_of s t).writes ≡ (txn_of s₁ t).writes
  pub from-prepared : phase_prepared ≤ rank (txn_of s t).phase
  -- Prepared: each pending row has the head that it had, and the same rows get a version
  pub head-waits : rank (txn_of s t).phase ≡ phase_prepared → (r : ℕ) → Writes s₁.sizes (txn_of s₁ t) r → s.chains.head r ≡ s₁.chains.head r
  pub gets-same : rank (txn_of s t).phase ≡ phase_prepared
      → version_rows s.sizes s.chains (txn_of s t).writes ≡ version_rows s₁.sizes s₁.chains (txn_of s₁ t).writes
  -- Installed or Ended: these got one, over the head that prepare saw, and the others have that head still
  pub made-same : phase_installed ≤ rank (txn_of s t).phase
      → made_rows s.sizes s.chains t (txn_of s t).writes ≡ version_rows s₁.sizes s₁.chains (txn_of s₁ t).writes
  pub made-over : phase_installed ≤ rank (txn_of s t).phase → (r : ℕ) → Gets s₁.sizes s₁.chains (txn_of s₁ t) r
      → s.chains.next (s.chains.head r) ≡ s₁.chains.head r
  pub head-stays : phase_installed ≤ rank (txn_of s t).phase → (r : ℕ) → Writes s₁.sizes (txn_of s₁ t) r → (Gets s₁.sizes s₁.chains (txn_of s₁ t) r → ⊥)
      → s.chains.head r ≡ s₁.chains.head r

-- an erase of nothing costs nothing: the install and the publish of t leave every version, head, stamp and posting as they were
pub record CostsNothing (s : Store) (t : ℕ) : Type 0 where
  pub installs-none : number s (install t) ≡ 0 → (step s (install t)).store.chains ≡ s.chains
  pub publishes-none : number s (publish t) ≡ 0 → (step s (publish t)).store.chains ≡ s.chains
  pub stamps-none : number s (publish t) ≡ 0 → (b : ℕ) → (step s (publish t)).store.index.stamp b ≡ s.index.stamp b
  pub posts-none : number s (publish t) ≡ 0 → (r : ℕ) → (step s (publish t)).store.index.posted r ≡ s.index.posted r

-- the index reads of each transaction are of distinct buckets: no index read's bucket has a later one
unfoldable pub Distinct : List IndexRead → Type 0
Distinct [] = Unit {0}
Distinct (r ∷ rs) = (has_read rs r.bucket ≡ false) × Distinct rs

abbrev pub DistinctAt : Store → Type 0
DistinctAt s = (j : ℕ) → Distinct (s.txns j).reads

-- every marked transaction is Open: so `rows`, which needs Collected, never meets one, and needs no test of the mark
abbrev pub MarkedOpen : Store → Type 0
MarkedOpen s = (i : ℕ) → (s.txns i).marked ≡ true → (s.txns i).phase ≡ Open

-- the numbers left to the steps of a marked transaction: 8 to work, 5 to what needs another phase, 7 or else 14 to prepare; validate and abort still work
abbrev pub MarkedGives : Store → Step → ℕ → Type 0
MarkedGives s begin n = ⊥
MarkedGives s (capture t k) n = n ≡ 8
MarkedGives s (collect t) n = n ≡ 5
MarkedGives s (rows t room) n = n ≡ 5
MarkedGives s (write t r c) n = n ≡ 8
MarkedGives s (prepare t) n = GivenWhen 7 (BucketTaken s t (needed_buckets s (txn_of s t)) ⊎ RowTaken s t) n (n ≡ 14)
MarkedGives s (install t) n = n ≡ 5
MarkedGives s (end t) n = n ≡ 5
MarkedGives s (publish t) n = n ≡ 5
MarkedGives s (validate t) n = GivenWhen 7 (BucketTaken s t (read_buckets (txn_of s t))) n (n ≡ 0)
MarkedGives s (abort t) n = n ≡ 0

-- no more work in the marked transaction t: what its steps give, and that its record stays as it is, whatever steps come, until it is aborted
pub record NoMoreWork (s : Store) (t : ℕ) : Type 0 where
  pub gives : (a : Step) → Names a → actor a ≡ t → MarkedGives s a (number s a)
  pub judged : number s (validate t) ≡ 0 → (step s (validate t)).answer ≡ Judged Mark
  pub stays : (more : List Step) → (Among (abort t) more → ⊥) → (run s more).txns (at s t) ≡ txn_of s t

-- a version once made: xmin, next, key and payload never change, and xmax changes once, from 0
pub record KeptVersion (c c' : Chains) (p : ℕ) : Type 0 where
  pub in_use : p ≤ c'.used
  pub same : SameVersion c c' p
  pub xmax-once : (c'.xmax p ≡ c.xmax p) ⊎ (c.xmax p ≡ 0)

-- the index is upstream's history of the run: its postings are the replay of the events, which are coherent, and its stamps are those of the events that change
-- a key
pub record HistoryStands (s : Store) (es : List Event) : Type 0 where
  pub postings-are : (k r : ℕ) → posting_replay (postings_of (λ q. none)) es k r ≡ same_key (s.index.posted r) (some k)
  pub live-keys : (r : ℕ) → s.index.posted r ≡ live_rows (λ q. none) es r
  pub coherent : Coherent (λ q. none) es
  pub stamps-are : (b : ℕ) → s.index.stamp b ≡ stamp_at s.sizes (λ c. 0) (changing es) b
  pub candidates-are : (k r : ℕ) → member r (posted_rows s k) ≡ ltb r s.sizes.rows && raw_candidates (posting_replay (postings_of (λ q. none)) es) k r
  -- what a live transaction sees of a row, unless it sees a version of it that is still unpublished
  pub snapshots-are : (j r : ℕ) → Live (s.txns j)
      → ((w : ℕ) → Unpublished s.sizes s.chains (s.txns w) r → seen (s.txns j).snapshot (s.chains.xmin (s.chains.head r)) ≡ false)
      → snapshot_rows (λ q. none) es (s.txns j) r ≡ key_at s.chains (version_of s.chains (s.txns j).snapshot r)

-- a live transaction's xmin is the least of its active numbers and its own: so every number below it is seen, and none of these is among the active
pub record LeastXmin (x : Txn) : Type 0 where
  pub least-is : x.snapshot.xmin ≡ least x.number x.snapshot.active
  pub below-seen : (n : ℕ) → n < x.snapshot.xmin → seen x.snapshot n ≡ true
  pub below-inactive : (n : ℕ) → n < x.snapshot.xmin → member n x.snapshot.active ≡ false

-- so of every live transaction
abbrev pub LeastXmins : Store → Type 0
LeastXmins s = (j : ℕ) → Live (s.txns j) → LeastXmin (s.txns j)

-- a live transaction sees what upstream's definitions say
pub record UpstreamSees (s : Store) (x : Txn) : Type 0 where
  pub creators : (n : ℕ) → creator_visible x n ≡ seen x.snapshot n
  pub versions : (p : ℕ) → 1 ≤ p → p ≤ s.chains.used → row_visible s.chains x p ≡ visible s.chains x.snapshot p
  pub walks : (p : ℕ) → first_row s.chains x p p ≡ pointer (first_visible s.chains x.snapshot p)
  pub matching : (k r : ℕ) → matches_row s.sizes.rows s.chains x k r ≡ ltb r s.sizes.rows && matches s.chains x k r

-- DEMAND 2

-- a finished read: s is the store before `rows`, s' the one after it, t the transaction's number, and rs the answer
pub record FinishedRead (s s' : Store) (t : ℕ) (rs : List ℕ) : Type 0 where
  pub key : ℕ
  pub phase-is : (txn_of s t).phase ≡ Collected key
  -- every row of the store that matches, and no other
  pub whole : rs ≡ pick (matches s.chains (txn_of s t) key) 0 s.sizes.rows
  pub ascending : Rising 0 rs
  -- the version of each row matched through one is recorded
  pub recorded : (r : ℕ) → Among r rs → pending (txn_of s t).writes r ≡ false → Among (record_of s.chains (txn_of s t).snapshot r) (txn_of s' t).records
  -- no record is lost, and no other is added
  pub kept : (q : ReadRecord) → Among q (txn_of s t).records → Among q (txn_of s' t).records
  pub no_other : (q : ReadRecord) → Among q (txn_of s' t).records
      → Among q (txn_of s t).records ⊎ ((r : ℕ) × Among r rs × (pending (txn_of s t).writes r ≡ false) × (q ≡ record_of s.chains (txn_of s t).snapshot r))

-- DEMAND 3

-- a validated read stands: what transaction t read of key k at s₁, a snapshot taken at s₂ shows too, the same rows at the same versions and no others, each
-- with the key and the payload that it had
pub record StandingRead (z : Sizes) (s₁ s₂ : Store) (t k : ℕ) (rs : List ℕ) : Type 0 where
  pub shows_same : shows s₂.chains z.rows (snapshot_now s₂) k ≡ shows s₁.chains z.rows (txn_of s₁ t).snapshot k
  pub rows_are : map (λ (q : ReadRecord). q.row) (shows s₁.chains z.rows (txn_of s₁ t).snapshot k) ≡ rs
  pub keys-are : (q : ReadRecord) → Among q (shows s₁.chains z.rows (txn_of s₁ t).snapshot k)
      → (s₁.chains.key q.ptr ≡ some k) × (s₂.chains.key q.ptr ≡ some k)
  pub payloads-same : (q : ReadRecord) → Among q (shows s₁.chains z.rows (txn_of s₁ t).snapshot k)
      → s₂.chains.payload q.ptr ≡ s₁.chains.payload q.ptr
