-- Wrong bodies of the crate `read_record`.
-- Assumes nothing.
use Rattle.std.specs.Prelude.{Option, Some, None}
use Prim.Native.Nat.{ℕ, suc, ◌+◌}
use mathlib.Core.Path.{refl}
use mathlib.Core.List.{List, [], ◌∷◌}
use lib.ListN.{length}
use Rattle.base_limits.specs.Limits.{most_records}
use Rattle.read_record.specs.Recording.{known_pointers, planned, records_for, put_records, LeftRecords, kept_records, recorded_of}
use Rattle.tightness.specs.Wrong.{Excludes}
use Rattle.tightness.proofs.Apart.{apart}
use Rattle.tightness.proofs.Computes.{computes}

-- what record_versions is given: versions, lists, rows and their pointers, slot, how many records there are
abbrev Given : Type 0
Given = List ℕ × List ℕ × List ℕ × List ℕ × ℕ × ℕ

abbrev records : Given → LeftRecords
records (versions, lists, rows, ptrs, slot, n) = recorded_of versions lists rows ptrs slot n

-- 0 where they are too many, else one more than there are
abbrev told_by : Option ℕ → ℕ
told_by None = 0
told_by (Some n) = suc n

-- `record_versions`: a pointer met again is recorded again
pub record-versions-again : Excludes records (λ (versions, lists, rows, ptrs, slot, n). kept_records lists slot n (records_for versions rows ptrs) ptrs)
unfolding computes
record-versions-again = apart ([], [], 0 ∷ 1 ∷ [], 1 ∷ 1 ∷ [], 0, 0) (λ (l : LeftRecords). told_by l.told) refl

-- `record_versions`: one record too many is kept
pub record-versions-any-number : Excludes records (λ (versions, lists, rows, ptrs, slot, n).
    let ps = planned (known_pointers lists slot n) ptrs in
    let new = records_for versions rows ps in
    record { told = Some (n + length new); lists = put_records lists slot n new; pointers = ps })
unfolding computes
record-versions-any-number = apart ([], [], 0 ∷ [], 1 ∷ [], 0, most_records) (λ (l : LeftRecords). told_by l.told) refl
