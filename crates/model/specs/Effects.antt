-- What each step changes of each part of the store where it is not refused, part by part; whatever is not named stays as it was.
use Rattle.std.specs.Prelude.{ℕ, suc, ◌+◌, ◌≤◌, ◌<◌, ◌≡◌, ◌≢◌, ◌⊎◌, List, [], ◌∷◌, ◌++◌, length}
use Rattle.std.proofs.Math.Option.{some}
use Rattle.base_lists.specs.Lists.{Among}
use Rattle.model.specs.Store.{Sizes, Chains, Write, Txn, Store, bucket_in, bucket_of}
use Rattle.model.specs.Steps.{pending_rows, version_rows, made_rows, needed_buckets, key_before, new_key}
use Rattle.model.specs.Refusals.{Step, begin, capture, collect, rows, write, prepare, install, end, publish, validate, abort, txn_of}
use Rattle.model.specs.Given.{bucket_for}

-- the clock: up by 1 at begin and publish
abbrev pub clock_after : Step → ℕ → ℕ
clock_after begin n = suc n
clock_after (capture t k) n = n
clock_after (collect t) n = n
clock_after (rows t room) n = n
clock_after (write t r c) n = n
clock_after (prepare t) n = n
clock_after (install t) n = n
clock_after (end t) n = n
clock_after (publish t) n = suc n
clock_after (validate t) n = n
clock_after (abort t) n = n

-- THE VERSIONS

-- the rows that get a version: at install the pending ones that do
abbrev pub makes : Store → Step → List ℕ
makes s begin = []
makes s (capture t k) = []
makes s (collect t) = []
makes s (rows t room) = []
makes s (write t r c) = []
makes s (prepare t) = []
makes s (install t) = version_rows s.sizes s.chains (txn_of s t).writes
makes s (end t) = []
makes s (publish t) = []
makes s (validate t) = []
makes s (abort t) = []

-- w is the last of the writes to row r
pub record LastWrite (ws : List Write) (r : ℕ) (w : Write) : Type 0 where
  pub earlier : List Write
  pub later : List Write
  pub stands : ws ≡ earlier ++ (w ∷ later)
  pub row_is : w.row ≡ r
  pub none-later : (v : Write) → Among v later → v.row ≢ r

-- a row is live: its head is a version with a key
abbrev pub LiveHead : Chains → ℕ → Type 0
LiveHead c r = (c.head r ≢ 0) × ((k : ℕ) × (c.key (c.head r) ≡ some k))

-- which pending rows get a version: those that are live, and those whose last write is a put
pub record GetsVersion (z : Sizes) (c : Chains) (x : Txn) (r : ℕ) : Type 0 where
  pub row_in : r < z.rows
  pub write : Write
  pub last : LastWrite x.writes r write
  pub live-or-put : LiveHead c r ⊎ ((k : ℕ) × (write.key ≡ some k))

-- the version made of row r by x: over the old head, from the last write, open
pub record NewVersion (x : Txn) (c c' : Chains) (r : ℕ) : Type 0 where
  pub write : Write
  pub last : LastWrite x.writes r write
  pub above : c.used < c'.head r
  pub in_use : c'.head r ≤ c'.used
  pub xmin-is : c'.xmin (c'.head r) ≡ x.number
  pub xmax-is : c'.xmax (c'.head r) ≡ 0
  pub next-is : c'.next (c'.head r) ≡ c.head r
  pub key-is : c'.key (c'.head r) ≡ write.key
  pub payload-is : c'.payload (c'.head r) ≡ write.payload

-- a version as it was made: all but its xmax
pub record SameVersion (c c' : Chains) (p : ℕ) : Type 0 where
  pub xmin-stays : c'.xmin p ≡ c.xmin p
  pub next-stays : c'.next p ≡ c.next p
  pub key-stays : c'.key p ≡ c.key p
  pub payload-stays : c'.payload p ≡ c.payload p

-- the rows rs, written by x, get a version each, pointers rising with the rows; their old heads end at its number
pub record VersionsAfter (x : Txn) (rs : List ℕ) (c c' : Chains) : Type 0 where
  pub used-is : c'.used ≡ c.used + length rs
  pub old-stays : (p : ℕ) → p ≤ c.used → SameVersion c c' p
  pub xmax-set : (r : ℕ) → Among r rs → c'.xmax (c.head r) ≡ x.number
  pub xmax-stays : (p : ℕ) → p ≤ c.used → ((r : ℕ) → Among r rs → c.head r ≢ p) → c'.xmax p ≡ c.xmax p
  pub head-stays : (r : ℕ) → (Among r rs → ⊥) → c'.head r ≡ c.head r
  pub head-new : (r : ℕ) → Among r rs → NewVersion x c c' r
  pub heads-rise : (q r : ℕ) → Among q rs → Among r rs → q < r → c'.head q < c'.head r

-- STAMPS AND POSTINGS

-- publish stamps bucket b: it is the bucket of the old or the new key of a pending row that got a version, where the two differ
abbrev pub Stamps : Store → Step → ℕ → Type 0
Stamps s begin b = ⊥
Stamps s (capture t k) b = ⊥
Stamps s (collect t) b = ⊥
Stamps s (rows t room) b = ⊥
Stamps s (write t r c) b = ⊥
Stamps s (prepare t) b = ⊥
Stamps s (install t) b = ⊥
Stamps s (end t) b = ⊥
Stamps s (publish t) b =
    (r : ℕ) × Among r (made_rows s.sizes s.chains (txn_of s t).number (txn_of s t).writes) × (key_before s.chains r ≢ new_key (txn_of s t) r)
    × ((k : ℕ) × ((key_before s.chains r ≡ some k) ⊎ (new_key (txn_of s t) r ≡ some k)) × (b ≡ bucket_of s.sizes k))
Stamps s (validate t) b = ⊥
Stamps s (abort t) b = ⊥

-- the rows whose posting follows the new key: at publish the pending ones
abbrev pub posts : Store → Step → List ℕ
posts s begin = []
posts s (capture t k) = []
posts s (collect t) = []
posts s (rows t room) = []
posts s (write t r c) = []
posts s (prepare t) = []
posts s (install t) = []
posts s (end t) = []
posts s (publish t) = pending_rows s.sizes (txn_of s t).writes
posts s (validate t) = []
posts s (abort t) = []

-- HOLDERS AND CLAIMS

-- bucket b is taken: the key's at capture, the needed ones at prepare
abbrev pub Takes : Store → Step → ℕ → Type 0
Takes s begin b = ⊥
Takes s (capture t k) b = b ≡ bucket_for s k
Takes s (collect t) b = ⊥
Takes s (rows t room) b = ⊥
Takes s (write t r c) b = ⊥
Takes s (prepare t) b = Among b (needed_buckets s (txn_of s t))
Takes s (install t) b = ⊥
Takes s (end t) b = ⊥
Takes s (publish t) b = ⊥
Takes s (validate t) b = ⊥
Takes s (abort t) b = ⊥

-- bucket b is freed: the one that Holding carries at collect, the own ones at publish and abort
abbrev pub Frees : Store → Step → ℕ → Type 0
Frees s begin b = ⊥
Frees s (capture t k) b = ⊥
Frees s (collect t) b = b ≡ bucket_in (txn_of s t).phase
Frees s (rows t room) b = ⊥
Frees s (write t r c) b = ⊥
Frees s (prepare t) b = ⊥
Frees s (install t) b = ⊥
Frees s (end t) b = ⊥
Frees s (publish t) b = s.held.holder b ≡ t
Frees s (validate t) b = ⊥
Frees s (abort t) b = s.held.holder b ≡ t

-- row r is claimed: a pending one at prepare
abbrev pub Claimed : Store → Step → ℕ → Type 0
Claimed s begin r = ⊥
Claimed s (capture t k) r = ⊥
Claimed s (collect t) r = ⊥
Claimed s (rows t room) r = ⊥
Claimed s (write t q c) r = ⊥
Claimed s (prepare t) r = Among r (pending_rows s.sizes (txn_of s t).writes)
Claimed s (install t) r = ⊥
Claimed s (end t) r = ⊥
Claimed s (publish t) r = ⊥
Claimed s (validate t) r = ⊥
Claimed s (abort t) r = ⊥

-- row r is freed: an own one at publish and abort
abbrev pub Unclaimed : Store → Step → ℕ → Type 0
Unclaimed s begin r = ⊥
Unclaimed s (capture t k) r = ⊥
Unclaimed s (collect t) r = ⊥
Unclaimed s (rows t room) r = ⊥
Unclaimed s (write t q c) r = ⊥
Unclaimed s (prepare t) r = ⊥
Unclaimed s (install t) r = ⊥
Unclaimed s (end t) r = ⊥
Unclaimed s (publish t) r = s.held.claim r ≡ t
Unclaimed s (validate t) r = ⊥
Unclaimed s (abort t) r = s.held.claim r ≡ t
