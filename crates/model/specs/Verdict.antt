-- The verdict: in this order the mark, the first index read whose bucket changed, the first read record that changed.
use Rattle.std.specs.Prelude.{ℕ, Bool, cond, not, ◌&&◌, ◌||◌, List, [], ◌∷◌, eqb, ltb, leb}
use Rattle.base_lists.specs.Lists.{member}
use Rattle.model.specs.Store.{Chains, Index, IndexRead, ReadRecord, Snapshot, Txn}

-- no conflict; a bucket with its captured and its present stamp; a row with the pointer it was read at; the mark
pub data Verdict : Type 0 where
  Clear : Verdict
  Bucket : ℕ → ℕ → ℕ → Verdict
  Row : ℕ → ℕ → Verdict
  Mark : Verdict

-- document 01's number for each verdict, and its values
abbrev pub verdict_number : Verdict → ℕ
verdict_number Clear = 0
verdict_number (Bucket b captured present) = 1
verdict_number (Row r p) = 2
verdict_number Mark = 3

abbrev pub verdict_values : Verdict → List ℕ
verdict_values Clear = []
verdict_values (Bucket b captured present) = b ∷ captured ∷ present ∷ []
verdict_values (Row r p) = r ∷ p ∷ []
verdict_values Mark = []

-- an index read is bad if the present stamp differs or is not below the number
unfoldable pub bad_read : Index → ℕ → IndexRead → Bool
bad_read x n r = not (eqb (x.stamp r.bucket) r.stamp) || not (ltb (x.stamp r.bucket) n)

-- a record is bad if the version's xmin differs from it, or if xmax is neither 0 nor the own number and is at or above snapshot xmax or among the active
unfoldable pub bad_record : Chains → ℕ → Snapshot → ReadRecord → Bool
bad_record c n s r =
    not (eqb (c.xmin r.ptr) r.xmin)
    || (not (eqb (c.xmax r.ptr) 0) && not (eqb (c.xmax r.ptr) n) && (leb s.xmax (c.xmax r.ptr) || member (c.xmax r.ptr) s.active))

-- the first bad read record, else no conflict
unfoldable pub judge_records : Chains → ℕ → Snapshot → List ReadRecord → Verdict
judge_records c n s [] = Clear
judge_records c n s (r ∷ rs) = cond (bad_record c n s r) (Row r.row r.ptr) (judge_records c n s rs)

-- the first bad index read, else the verdict given
unfoldable pub judge_reads : Index → ℕ → List IndexRead → Verdict → Verdict
judge_reads x n [] otherwise = otherwise
judge_reads x n (r ∷ rs) otherwise = cond (bad_read x n r) (Bucket r.bucket r.stamp (x.stamp r.bucket)) (judge_reads x n rs otherwise)

unfoldable pub verdict : Chains → Index → Txn → Verdict
verdict c x t = cond t.marked Mark (judge_reads x t.number t.reads (judge_records c t.number t.snapshot t.records))
