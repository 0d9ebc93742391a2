-- What a clear verdict says: no mark, every index read and every read record good. Assumes nothing.
use mathlib.Core.Path.{◌≡◌, refl}
use mathlib.Core.Bool.{true, false}
use mathlib.Core.Logic.{◌⊎◌, inl, inr, ⊎_elim}
use Prim.Native.Nat.{ℕ, ◌<◌}
use native.Mathlib.Omega.{arith}
use Rattle.base_lists.specs.Lists.{Among}
use Rattle.model.specs.Store.{Chains, Index, IndexRead, ReadRecord, Txn}
use Rattle.model.specs.Seeing.{seen}
use Rattle.model.specs.Verdict.{Verdict, Clear, Bucket, Row, Mark, verdict_number, bad_read, bad_record, verdict}
use Rattle.model.proofs.Told.{which-seen}
use Rattle.model.proofs.Verdicts.{read-bad, record-bad, verdict-0}

pub clear-number : (v : Verdict) → verdict_number v ≡ 0 → v ≡ Clear
clear-number Clear e = refl
clear-number (Bucket b c p) e = absurd (omega arith)
clear-number (Row r p) e = absurd (omega arith)
clear-number Mark e = absurd (omega arith)

pub record Cleared (c : Chains) (ix : Index) (x : Txn) : Type 0 where
  pub unmarked : x.marked ≡ false
  pub reads-good : (q : IndexRead) → Among q x.reads → bad_read ix x.number q ≡ false
  pub records-good : (q : ReadRecord) → Among q x.records → bad_record c x.number x.snapshot q ≡ false

pub cleared : (c : Chains) (ix : Index) (x : Txn) → verdict c ix x ≡ Clear → Cleared c ix x
cleared c ix x e = let w = (verdict-0 c ix x).0 e in
    record { unmarked = w.0; reads-good = λ q m. (read-bad ix x.number q).if_no (w.1.0 q m); records-good = λ q m. (record-bad c x q).if_no (w.1.1 q m) }

-- a good index read's bucket is stamped below the number
pub read_below : (ix : Index) (n : ℕ) (q : IndexRead) → bad_read ix n q ≡ false → ix.stamp q.bucket < n
read_below ix n q e = ((read-bad ix n q).fails e).1

-- a good record's version has xmax 0, or the own number, or one that is seen
pub record-open : (c : Chains) (x : Txn) (q : ReadRecord) → bad_record c x.number x.snapshot q ≡ false
    → (c.xmax q.ptr ≡ 0) ⊎ ((c.xmax q.ptr ≡ x.number) ⊎ (seen x.snapshot (c.xmax q.ptr) ≡ true))
record-open c x q e = ⊎_elim (λ o. ⊎_elim inl (λ f. inr (inl f)) o) (λ w. inr (inr (which-seen x.snapshot _ w.0 w.1))) ((record-bad c x q).fails e).1
