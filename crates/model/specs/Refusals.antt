-- The refusals: each with its number, when it is given, and in which order.
use Rattle.std.specs.Prelude.{ℕ, zero, suc, ◌+◌, min, Bool, cond, not, ◌&&◌, ◌||◌, List, [], ◌∷◌, eqb, ltb, leb, length}
use Rattle.std.proofs.Math.Option.{Option, none, some}
use Rattle.base_limits.specs.Limits.{most_rows, most_live, most_index_reads, most_records, most_writes, last_number}
use Rattle.base_lists.specs.Lists.{pick, first, some_of}
use Rattle.model.specs.Store.{Sizes, Chains, Txn, Store, rank, phase_prepared, bucket_of}
use Rattle.model.specs.Seeing.{live}
use Rattle.model.specs.Verdict.{verdict, verdict_number}
use Rattle.model.specs.Contents.{Content}
use Rattle.model.specs.Steps.{has_read, found_rows, records_after, pending_rows, version_rows, read_buckets, needed_buckets}

pub data Refusal : Type 0 where
  WrongSize NoNumbers Full NoSuch WrongPhase NoRow Taken Stale Marked ManyReads NoRoom ManyRecords ManyWrites NoVersions Conflict Malformed WrongShape : Refusal

-- document 01's number for each refusal
abbrev pub refusal_number : Refusal → ℕ
refusal_number WrongSize = 1
refusal_number NoNumbers = 2
refusal_number Full = 3
refusal_number NoSuch = 4
refusal_number WrongPhase = 5
refusal_number NoRow = 6
refusal_number Taken = 7
refusal_number Stale = 8
refusal_number Marked = 8
refusal_number ManyReads = 9
refusal_number NoRoom = 10
refusal_number ManyRecords = 11
refusal_number ManyWrites = 12
refusal_number NoVersions = 13
refusal_number Conflict = 14
refusal_number Malformed = 15
refusal_number WrongShape = 16

-- the steps that a store is asked for: the first number is the transaction's; a write is of a row, and of its key and payload or of nothing
pub data Step : Type 0 where
  begin : Step
  capture : ℕ → ℕ → Step
  collect : ℕ → Step
  rows : ℕ → ℕ → Step
  write : ℕ → ℕ → Content → Step
  prepare : ℕ → Step
  install : ℕ → Step
  end : ℕ → Step
  publish : ℕ → Step
  validate : ℕ → Step
  abort : ℕ → Step

-- put and erase: a write of a key with its payload, and of nothing
abbrev pub put : ℕ → ℕ → ℕ → ℕ → Step
put t r k payload = write t r (some (k, payload))

abbrev pub erase : ℕ → ℕ → Step
erase t r = write t r none

-- the first place whose transaction has this number, 8 where there is none; 0 is the number of a free place
unfoldable pub place_of : (ℕ → Txn) → ℕ → ℕ
place_of txns n = first (λ i. eqb (txns i).number n) 0 most_live

abbrev pub txn_of : Store → ℕ → Txn
txn_of s t = s.txns (place_of s.txns t)

-- how many are live
unfoldable pub live_count : (ℕ → Txn) → ℕ
live_count txns = length (pick (λ i. live (txns i)) 0 most_live)

-- held, or claimed, by another: neither free nor the own number's
unfoldable pub by_another : (ℕ → ℕ) → ℕ → ℕ → Bool
by_another f n j = not (eqb (f j) 0) && not (eqb (f j) n)

-- versions reserved by one who is Prepared: a version for each distinct pending row that gets one
unfoldable pub reserved_by : Sizes → Chains → Txn → ℕ
reserved_by z c x = cond (live x && eqb (rank x.phase) phase_prepared) (length (version_rows z c x.writes)) 0

unfoldable pub reserved : Sizes → Chains → (ℕ → Txn) → ℕ → ℕ
reserved z c txns zero = 0
reserved z c txns (suc n) = reserved z c txns n + reserved_by z c (txns n)

-- the versions after a prepare: used, reserved by others Prepared, and one for each own distinct pending row that gets one
abbrev pub versions_after : Store → Txn → ℕ
versions_after s x = s.chains.used + reserved s.sizes s.chains s.txns most_live + length (version_rows s.sizes s.chains x.writes)

-- 4, and then 5 where the phase is not the one that the step needs
abbrev pub found : Store → ℕ → Bool → List (Bool × Refusal) → List (Bool × Refusal)
found s t phase more = (eqb t 0 || not (ltb (place_of s.txns t) most_live), NoSuch) ∷ (not phase, WrongPhase) ∷ more

-- a needed bucket is held by another
abbrev pub buckets_taken : Store → Txn → List ℕ → Bool
buckets_taken s x bs = some_of (by_another s.held.holder x.number) bs

-- a pending row is claimed by another
abbrev pub rows_claimed : Store → Txn → Bool
rows_claimed s x = some_of (by_another s.held.claim x.number) (pending_rows s.sizes x.writes)

-- begin: fewer than 8 live, and numbers left
abbrev pub begin_checks : Store → List (Bool × Refusal)
begin_checks s = (leb most_live (live_count s.txns), Full) ∷ (ltb last_number (s.clock + live_count s.txns + 2), NoNumbers) ∷ []

-- capture: not marked, a bucket that is free, a stamp below the number, and not a 17th index read
abbrev pub capture_checks : Store → Txn → ℕ → List (Bool × Refusal)
capture_checks s x k =
    (x.marked, Marked)
    ∷ (by_another s.held.holder x.number (bucket_of s.sizes k), Taken)
    ∷ (not (ltb (s.index.stamp (bucket_of s.sizes k)) x.number), Stale)
    ∷ (not (has_read x.reads (bucket_of s.sizes k)) && leb most_index_reads (length x.reads), ManyReads)
    ∷ []

-- rows: a lent list that the matches fit in, and not a 129th read record
abbrev pub rows_checks : Store → Txn → ℕ → List (Bool × Refusal)
rows_checks s x room =
    (ltb (min room most_rows) (length (found_rows s x)), NoRoom)
    ∷ (ltb most_records (length (records_after s x)), ManyRecords)
    ∷ []

-- a write: not marked, a row below the row count, and not a 17th pending write
abbrev pub write_checks : Store → Txn → ℕ → List (Bool × Refusal)
write_checks s x r = (x.marked, Marked) ∷ (not (ltb r s.sizes.rows), NoRow) ∷ (leb most_writes (length x.writes), ManyWrites) ∷ []

-- prepare: the needed buckets and the pending rows free, a verdict of 0, and versions enough
abbrev pub prepare_checks : Store → Txn → List (Bool × Refusal)
prepare_checks s x =
    (buckets_taken s x (needed_buckets s x) || rows_claimed s x, Taken)
    ∷ (not (eqb (verdict_number (verdict s.chains s.index x)) 0), Conflict)
    ∷ (ltb s.sizes.versions (versions_after s x), NoVersions)
    ∷ []

-- validate: the buckets of its index reads free
abbrev pub validate_checks : Store → Txn → List (Bool × Refusal)
validate_checks s x = (buckets_taken s x (read_buckets x), Taken) ∷ []

-- the first refusal whose test holds
unfoldable pub refusal : List (Bool × Refusal) → Option Refusal
refusal [] = none
refusal (c ∷ cs) = cond c.0 (some c.1) (refusal cs)
