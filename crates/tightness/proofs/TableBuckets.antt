-- Wrong bodies of the crate `table_buckets`.
-- Assumes nothing.
use Rattle.std.specs.Prelude.{Result, Ok, Err}
use Prim.Native.Nat.{ℕ, ◌+◌, ◌%◌, ◌/◌}
use mathlib.Core.Path.{refl}
use mathlib.Core.List.{List, [], ◌∷◌, reverse}
use lib.Dec.{leb}
use lib.ListN.{length, get_or}
use Rattle.base_limits.specs.Limits.{most_buckets}
use Rattle.table_buckets.specs.declared.ListError.{ListError}
use Rattle.table_buckets.specs.declared.ListError.TheVariants.{Bad, NoRoom}
use Rattle.table_buckets.specs.Buckets.{precedes, counted, buckets_of, check_of, sorted_count, Made, answered, canonical_of}
use Rattle.tightness.specs.Wrong.{Excludes}
use Rattle.tightness.proofs.Apart.{apart, itself, bit}
use Rattle.tightness.proofs.Computes.{computes}

-- `stamp_precedes_snapshot`: a stamp equal to the number too
pub stamp-precedes-snapshot-equal : Excludes {A = ℕ × ℕ} (λ (stamp, number). precedes stamp number) (λ (stamp, number). leb stamp number)
stamp-precedes-snapshot-equal = apart (5, 5) bit refl

-- `stamp_precedes_snapshot`: the number before the stamp
pub stamp-precedes-snapshot-reversed : Excludes {A = ℕ × ℕ} (λ (stamp, number). precedes stamp number) (λ (stamp, number). precedes number stamp)
stamp-precedes-snapshot-reversed = apart (4, 5) bit refl

-- `bucket_of`: the key itself
pub bucket-of-key : Excludes {A = ℕ × ℕ} (λ (count, key). key % count) (λ (count, key). key)
bucket-of-key = apart (4, 5) itself refl

-- `bucket_of`: the quotient, not the rest
pub bucket-of-quotient : Excludes {A = ℕ × ℕ} (λ (count, key). key % count) (λ (count, key). key / count)
bucket-of-quotient = apart (4, 2) itself refl

-- the number in an answer
abbrev number_of : Result ℕ ListError → ℕ
number_of (Ok n) = n
number_of (Err (Bad b)) = b
number_of (Err NoRoom) = 0

-- `sorted_count`: a bad bucket counts as many
pub sorted-count-bad : Excludes (λ (a : Result ℕ ListError). sorted_count a) (λ a. number_of a)
sorted-count-bad = apart (Err (Bad 7)) itself refl

-- `sorted_count`: none, whatever was listed
pub sorted-count-none : Excludes (λ (a : Result ℕ ListError). sorted_count a) (λ a. 0)
sorted-count-none = apart (Ok 2) itself refl

-- what the contracts of `canonical_buckets_sort` and `canonical_buckets_bitmap` ask for: each theorem below is of both
abbrev canonical : List ℕ × ℕ × List ℕ → Made
canonical (input, count, old) = canonical_of input count old

-- the buckets as they stand, unsorted and repeated
pub canonical-buckets-unsorted : Excludes canonical (λ (input, count, old). answered (check_of (counted count) (length old) input) input old)
unfolding computes
canonical-buckets-unsorted = apart (3 ∷ 1 ∷ [], 4, 0 ∷ 0 ∷ []) (λ (m : Made). get_or m.out 0 0) refl

-- the last bad bucket, not the first
pub canonical-buckets-last-bad : Excludes canonical
    (λ (input, count, old). answered (check_of (counted count) (length old) (reverse input)) (buckets_of input) old)
unfolding computes
canonical-buckets-last-bad = apart (1 ∷ 9 ∷ 4 ∷ [], 4, []) (λ (m : Made). number_of m.answer) refl

-- a bucket count above 4,096 as it is
pub canonical-buckets-count-not-capped : Excludes canonical (λ (input, count, old). answered (check_of count (length old) input) (buckets_of input) old)
unfolding computes
canonical-buckets-count-not-capped = apart (most_buckets ∷ [], most_buckets + 1, 0 ∷ []) (λ (m : Made). number_of m.answer) refl

-- nothing is written
pub canonical-buckets-nothing : Excludes canonical (λ (input, count, old). record { answer = (canonical (input, count, old)).answer; out = old })
unfolding computes
canonical-buckets-nothing = apart (3 ∷ [], 4, 0 ∷ []) (λ (m : Made). get_or m.out 0 0) refl
