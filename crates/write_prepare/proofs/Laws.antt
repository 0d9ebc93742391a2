-- The listed buckets, and each way out of prepare, over plain values.
-- Assumes nothing.
use Prim.Native.Nat.{ℕ, min}
use mathlib.Core.Path.{◌≡◌}
use mathlib.Core.List.{List, map}
use native.Mathlib.Omega.{arith}
use lib.ListN.{take}
use Rattle.txn.specs.Methods.{taken_by}
use Rattle.txn.specs.declared.Transaction.{Transaction}
use Rattle.txn_needs.specs.Needs.{reads_need}
use Rattle.table.specs.Fields.{holder_of}
use Rattle.table.specs.Lists.{reads, read_of, read_at}
use Rattle.table.specs.declared.lists.IndexRead.{IndexRead}
use Rattle.std.specs.List.{list_any, range_with_len}
use Rattle.std.proofs.lemmas.List.{take_min}
use Rattle.std.proofs.lemmas.List.FromFn.{length-map-range_with_len, take-map-range_with_len}
use Rattle.txn_needs.proofs.Laws.{listed-cut, some_mapped, fields_numbered}
use Rattle.write_prepare.specs.Prepare.{most_needed, reads_taken_in}

-- the first of the numbers' entries
numbers_cut : (h : ℕ → ℕ) (n m : ℕ) → take m (map h (range_with_len 0 n)) ≡ map h (range_with_len 0 (min n m))
numbers_cut h n m =
    let e : min n m ≡ min m n = omega arith in
    rw (
      e,
      ← take_min m (map h (range_with_len 0 n)),
      length-map-range_with_len h 0 n,
      take-map-range_with_len h 0 n (min m n) (omega arith),
    )

-- `any` over the numbers of the index reads, as many as are listed
pub taken_numbered : (buckets lists : List ℕ) (t : Transaction)
    → list_any (λ i. taken_by (holder_of buckets (read_at lists t.slot i).bucket) t.number) (range_with_len 0 (min t.reads_n most_needed))
    ≡ reads_taken_in buckets lists t
unfolding reads_taken_in
taken_numbered buckets lists t =
    rw (
      listed-cut most_needed (reads_need lists t),
      fields_numbered (λ (r : IndexRead). r.bucket) read_of reads lists t.slot t.reads_n,
      numbers_cut (λ i. (read_at lists t.slot i).bucket) t.reads_n most_needed,
    )
    (some_mapped (λ b. taken_by (holder_of buckets b) t.number) (λ i. (read_at lists t.slot i).bucket)
    (range_with_len 0 (min t.reads_n most_needed)))
