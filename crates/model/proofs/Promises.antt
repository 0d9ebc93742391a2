-- The page of statements: what holds of every step at every store, and of every sequence of steps from a fresh store, refused steps included. Assumes nothing.
-- All that a statement says is defined in specs/; each proof is one line. The lines of the table of numbers, one by one, stand in Refused; the verdict's in
-- Verdicts; upstream's definitions in UpstreamLaws; runs that meet the premises in Reached.
use mathlib.Core.Path.{◌≡◌}
use mathlib.Core.Bool.{true}
use mathlib.Core.Logic.{◌↔◌}
use mathlib.Core.List.{List, []}
use Prim.Native.Nat.{ℕ, ◌≤◌}
use Rattle.base_limits.specs.Limits.{last_number}
use Rattle.base_lists.specs.Lists.{Among}
use Rattle.model.specs.Store.{Sizes, Collected, Store, fresh}
use Rattle.model.specs.Seeing.{Live}
use Rattle.model.specs.Verdict.{Verdict, Clear}
use Rattle.model.specs.Steps.{read_buckets}
use Rattle.model.specs.Refusals.{Step, rows, validate, prepare, install, txn_of}
use Rattle.model.specs.Machine.{Rows, Judged, Done, step, run, can_open}
use Rattle.model.specs.History.{history}
use Rattle.model.specs.Holding.{Writes, ErasesNothing}
use Rattle.model.specs.Causes.{Cause}
use Rattle.model.specs.Given.{◌and◌, number, Lives, Ready, BucketsFree, open_number, GivenOpen}
use Rattle.model.specs.Effects.{makes, GetsVersion}
use Rattle.model.specs.Demands.{ExactAnswer, MarkLives, Shapely, NothingLost, HeadKept, CostsNothing, DistinctAt, MarkedOpen, NoMoreWork, KeptVersion}
use Rattle.model.specs.Demands.{HistoryStands, LeastXmins, UpstreamSees, FinishedRead, StandingRead}
use Rattle.model.proofs.Making.{gets-when}
use Rattle.model.proofs.Exact.{open-exactly}
use Rattle.model.proofs.Marking.{mark-lives}
use Rattle.model.proofs.Distinct.{distinct-opened}
use Rattle.model.proofs.Marked.{marked-opened, no-more-work}
use Rattle.model.proofs.Claimed.{head-kept, costs-nothing}
use Rattle.model.proofs.Answering.{exact, judges}
use Rattle.model.proofs.Keeping.{shapely, nothing-lost, lasting, history-stands, least-xmins, upstream-sees}
use Rattle.model.proofs.Standing.{finished, validated, prepared}

-- DEMAND 1, of any step at any store: each number exactly when, in order; what the step answers; what it leaves, part by part; and of open
pub exact-answer : (s : Store) (a : Step) → ExactAnswer s a
exact-answer = exact

pub exact-open : (z : Sizes) (clock n : ℕ) → open_number z clock ≡ n ↔ GivenOpen z clock n
exact-open = open-exactly

-- A mark is set by a stale stamp alone and lasts as long as its transaction.
pub mark-life : (s : Store) (a : Step) (i : ℕ) → MarkLives s a i
mark-life = mark-lives

-- Which rows get a version: the pending ones that are live, and those whose last write is a put.
pub gets-version : (s : Store) (t r : ℕ) → Among r (makes s (install t)) ↔ GetsVersion s.sizes s.chains (txn_of s t) r
gets-version = gets-when

-- DEMAND 2, the verdict: validate answers v exactly when it is ready, no bucket of an index read is another's, and v has its cause, the first in document 01's
-- order.
pub validate-answers : (s : Store) (t : ℕ) (v : Verdict) → (step s (validate t)).answer ≡ Judged v
    ↔ Ready s (validate t) and BucketsFree s t (read_buckets (txn_of s t)) and Cause s.chains s.index (txn_of s t) v
validate-answers = judges

-- DEMAND 2, the read: every row that matches and no other, ascending, and each version relied on is recorded.
pub finished-read : (z : Sizes) (clock : ℕ) (before : List Step) (t room : ℕ) (rs : List ℕ) → let s = run (fresh z clock) before in
    (step s (rows t room)).answer ≡ Rows rs → FinishedRead s (step s (rows t room)).store t rs
finished-read = finished

-- DEMAND 3: at s₁ `rows` of a transaction with no pending write answers rs; after any steps `validate` of it answers that there is no conflict. The snapshot is
-- taken at that step.
pub validated-read : (z : Sizes) (clock : ℕ) (before : List Step) (t room k : ℕ) (rs : List ℕ) (between : List Step) →
    let s₁ = run (fresh z clock) before in
    let s₂ = run (step s₁ (rows t room)).store between in
    (step s₁ (rows t room)).answer ≡ Rows rs → (txn_of s₁ t).phase ≡ Collected k → (txn_of s₁ t).writes ≡ [] → (step s₂ (validate t)).answer ≡ Judged Clear
    → StandingRead z s₁ (step s₂ (validate t)).store t k rs
validated-read = validated

-- The same where a `prepare` of it is accepted.
pub prepared-read : (z : Sizes) (clock : ℕ) (before : List Step) (t room k : ℕ) (rs : List ℕ) (between : List Step) →
    let s₁ = run (fresh z clock) before in
    let s₂ = run (step s₁ (rows t room)).store between in
    (step s₁ (rows t room)).answer ≡ Rows rs → (txn_of s₁ t).phase ≡ Collected k → (txn_of s₁ t).writes ≡ [] → (step s₂ (prepare t)).answer ≡ Done
    → StandingRead z s₁ (step s₂ (prepare t)).store t k rs
prepared-read = prepared

-- WHAT EVERY REACHED STORE KEEPS, where it could be opened

-- Its shape is right.
pub kept-shape : (z : Sizes) (clock : ℕ) (before : List Step) → can_open z clock ≡ true → clock ≤ last_number → Shapely (run (fresh z clock) before)
kept-shape = shapely

-- Nothing held is lost.
pub kept-held : (z : Sizes) (clock : ℕ) (before : List Step) → can_open z clock ≡ true → clock ≤ last_number → NothingLost (run (fresh z clock) before)
kept-held = nothing-lost

-- The claim keeps the head: install and publish see what prepare saw.
pub kept-heads : (z : Sizes) (clock : ℕ) (before : List Step) → can_open z clock ≡ true → clock ≤ last_number → (t : ℕ) (more : List Step) →
    let s₁ = run (fresh z clock) before in
    let s = run (step s₁ (prepare t)).store more in
    number s₁ (prepare t) ≡ 0 → Lives s t → HeadKept s₁ s t
kept-heads = head-kept

-- An erase of nothing costs nothing: where every pending row erases nothing at prepare, install and publish leave every version, head, stamp and posting as
-- they were.
pub nothing-costs : (z : Sizes) (clock : ℕ) (before : List Step) → can_open z clock ≡ true → clock ≤ last_number → (t : ℕ) (more : List Step) →
    let s₁ = run (fresh z clock) before in
    let s = run (step s₁ (prepare t)).store more in
    number s₁ (prepare t) ≡ 0 → Lives s t → ((r : ℕ) → Writes s₁.sizes (txn_of s₁ t) r → ErasesNothing s₁.chains (txn_of s₁ t) r) → CostsNothing s t
nothing-costs = costs-nothing

-- The index reads of each transaction are of distinct buckets.
pub kept-reads : (z : Sizes) (clock : ℕ) (before : List Step) → DistinctAt (run (fresh z clock) before)
kept-reads = distinct-opened

-- Every marked transaction is Open, so `rows` never meets one.
pub kept-marked : (z : Sizes) (clock : ℕ) (before : List Step) → MarkedOpen (run (fresh z clock) before)
kept-marked = marked-opened

-- No more work is done in a marked transaction, until it is aborted.
pub marked-stops : (z : Sizes) (clock : ℕ) (before : List Step) → can_open z clock ≡ true → clock ≤ last_number → let s = run (fresh z clock) before in
    (t : ℕ) → Lives s t → (txn_of s t).marked ≡ true → NoMoreWork s t
marked-stops = no-more-work

-- A version's xmin, next, key and payload never change once it is made, and its xmax changes once, from 0.
pub kept-versions : (z : Sizes) (clock : ℕ) (before : List Step) → can_open z clock ≡ true → clock ≤ last_number → (more : List Step) (p : ℕ) → let s =
    run (fresh z clock) before in 1 ≤ p → p ≤ s.chains.used → KeptVersion s.chains (run s more).chains p
kept-versions = lasting

-- The index is upstream's history of the run.
pub kept-history : (z : Sizes) (clock : ℕ) (before : List Step) → can_open z clock ≡ true → clock ≤ last_number
    → HistoryStands (run (fresh z clock) before) (history (fresh z clock) before)
kept-history = history-stands

-- A live transaction sees every number below its xmin, which is the least of its active numbers and its own.
pub kept-xmin : (z : Sizes) (clock : ℕ) (before : List Step) → can_open z clock ≡ true → clock ≤ last_number → LeastXmins (run (fresh z clock) before)
kept-xmin = least-xmins

-- A live transaction sees what upstream's definitions say.
pub kept-seeing : (z : Sizes) (clock : ℕ) (before : List Step) → can_open z clock ≡ true → clock ≤ last_number → let s = run (fresh z clock) before in
    (j : ℕ) → Live (s.txns j) → UpstreamSees s (s.txns j)
kept-seeing = upstream-sees
