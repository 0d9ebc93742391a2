-- Wrong bodies of the crate `table_scans`.
-- Assumes nothing.
use Prim.Native.Nat.{ℕ, ◌+◌, ◌-◌, min}
use mathlib.Core.Path.{refl}
use mathlib.Core.Bool.{Bool}
use mathlib.Core.List.{List, [], ◌∷◌, map}
use Rattle.std.specs.Prelude.{Option}
use Rattle.base_limits.specs.Limits.{most_index_reads, most_writes, most_records}
use lib.ListN.{take}
use Rattle.base_lists.specs.Lists.{member, least}
use Rattle.table.specs.Lists.{records, reads_of, writes_of, records_of}
use Rattle.table_scans.specs.Scans as spec
use Rattle.tightness.specs.Wrong.{Excludes}
use Rattle.tightness.proofs.Apart.{apart, itself, bit, place_found}
use Rattle.tightness.proofs.Computes.{computes}
use Rattle.tightness.proofs.Small.{starting, twice}

-- what the contracts of the scans ask for
abbrev active_contains : List ℕ × ℕ × ℕ → Bool
active_contains (active, n, x) = spec.is_active active n x

abbrev least_of : ℕ × List ℕ × ℕ → ℕ
least_of (x, active, n) = least x (take n active)

abbrev latest_pending : List ℕ × ℕ × ℕ × ℕ → Option ℕ
latest_pending (lists, slot, n, row) = spec.latest_pending lists slot n row

abbrev read_already_recorded : List ℕ × ℕ × ℕ × ℕ → Bool
read_already_recorded (lists, slot, n, ptr) = spec.already_recorded lists slot n ptr

abbrev find_read_prefix : List ℕ × ℕ × ℕ × ℕ → Option ℕ
find_read_prefix (lists, slot, n, bucket) = spec.read_prefix lists slot n bucket

-- `active_contains`: numbers behind the first n count
pub active-contains-behind : Excludes active_contains (λ (active, n, x). member x active)
unfolding computes
active-contains-behind = apart (5 ∷ [], 0, 5) bit refl

-- `active_contains`: only the first is looked at
pub active-contains-first : Excludes active_contains (λ (active, n, x). active_contains (active, min n 1, x))
unfolding computes
active-contains-first = apart (4 ∷ 5 ∷ [], 2, 5) bit refl

-- `least_of`: the number alone
pub least-of-number-alone : Excludes least_of (λ (x, active, n). x)
unfolding computes
least-of-number-alone = apart (5, 3 ∷ [], 1) itself refl

-- `least_of`: numbers behind the first n count
pub least-of-behind : Excludes least_of (λ (x, active, n). least x active)
unfolding computes
least-of-behind = apart (5, 3 ∷ [], 0) itself refl

-- `latest_pending`: the first write of the row
pub latest-pending-first : Excludes latest_pending
    (λ (lists, slot, n, row). spec.first_place (spec.rows_written (writes_of lists slot (min n most_writes))) row)
unfolding computes
latest-pending-first = apart (twice, 0, 2, 0) place_found refl

-- `latest_pending`: a count above 16 reads into the read records
pub latest-pending-count-unclipped : Excludes latest_pending (λ (lists, slot, n, row). spec.last_place (spec.rows_written (writes_of lists slot n)) row)
unfolding computes
latest-pending-count-unclipped = apart (starting records (7 ∷ []), 0, most_writes + 1, 7) place_found refl

-- one read record: row 1 at pointer 2
abbrev recorded : List ℕ
recorded = starting records (1 ∷ 2 ∷ 3 ∷ [])

-- `read_already_recorded`: the row for the pointer
pub read-already-recorded-row : Excludes read_already_recorded
    (λ (lists, slot, n, ptr). member ptr (map (λ r. r.row) (records_of lists slot (min n most_records))))
unfolding computes
read-already-recorded-row = apart (recorded, 0, 1, 2) bit refl

-- `read_already_recorded`: the last record is not looked at
pub read-already-recorded-last-missed : Excludes read_already_recorded (λ (lists, slot, n, ptr). read_already_recorded (lists, slot, n - 1, ptr))
unfolding computes
read-already-recorded-last-missed = apart (recorded, 0, 1, 2) bit refl

-- two index reads of bucket 1, at stamps 4 and 5
abbrev captured : List ℕ
captured = 1 ∷ 4 ∷ 1 ∷ 5 ∷ []

-- `find_read_prefix`: the last index read of the bucket
pub find-read-prefix-last : Excludes find_read_prefix
    (λ (lists, slot, n, bucket). spec.last_place (spec.buckets_read (reads_of lists slot (min n most_index_reads))) bucket)
unfolding computes
find-read-prefix-last = apart (captured, 0, 2, 1) place_found refl

-- `find_read_prefix`: the stamp for the bucket
pub find-read-prefix-stamp : Excludes find_read_prefix
    (λ (lists, slot, n, bucket). spec.first_place (map (λ r. r.stamp) (reads_of lists slot (min n most_index_reads))) bucket)
unfolding computes
find-read-prefix-stamp = apart (captured, 0, 2, 1) place_found refl
