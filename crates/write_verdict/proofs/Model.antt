-- The words' verdict is the model's of every store that agrees with the words where the transaction's lists point.
-- Assumes nothing.
use Prim.Native.Nat.{ℕ, suc, ◌≤◌, ◌<◌}
use mathlib.Core.Path.{◌≡◌, refl}
use mathlib.Core.List.{List, [], ◌∷◌}
use mathlib.Core.Logic.{inl, inr}
use native.Mathlib.Omega.{arith}
use Rattle.base_lists.specs.Lists.{Among}
use Rattle.model.specs.Store.{Sizes, Chains, Index, IndexRead, ReadRecord, Snapshot, Txn}
use Rattle.model.specs.Verdict.{Verdict, bad_read, bad_record, judge_reads, judge_records, verdict}
use Rattle.table.specs.Fields.{version_words, bucket_words, xmin_of, xmax_of, stamp_of}
use Rattle.table.proofs.Parts.{part_field}
use Rattle.base_protocol.specs.View.{verdict_told}
use Rattle.txn.specs.declared.Transaction.{Transaction}
use Rattle.txn.specs.View.{rows_part, versions_part, buckets_part, chains_view, index_view, txn_view}
use Rattle.write_verdict.specs.Judged.{versions_view, stamps_view, verdict_of}

-- the store's versions and stamps are those of the words, at each pointer and bucket that the lists name
pub record Agrees (c : Chains) (x : Index) (versions buckets : List ℕ) (t : Txn) : Type 0 where
  pub xmin-same : (r : ReadRecord) → Among r t.records → c.xmin r.ptr ≡ xmin_of versions r.ptr
  pub xmax-same : (r : ReadRecord) → Among r t.records → c.xmax r.ptr ≡ xmax_of versions r.ptr
  pub stamp-same : (r : IndexRead) → Among r t.reads → x.stamp r.bucket ≡ stamp_of buckets r.bucket

records-same : (c : Chains) (versions : List ℕ) (n : ℕ) (s : Snapshot) (rs : List ReadRecord)
    → ((r : ReadRecord) → Among r rs → c.xmin r.ptr ≡ xmin_of versions r.ptr)
    → ((r : ReadRecord) → Among r rs → c.xmax r.ptr ≡ xmax_of versions r.ptr)
    → judge_records c n s rs ≡ judge_records (versions_view versions) n s rs
unfolding judge_records bad_record
records-same c versions n s [] p q = refl
records-same c versions n s (r ∷ rs) p q = rw (p r (inl refl), q r (inl refl), records-same c versions n s rs (λ r m. p r (inr m)) (λ r m. q r (inr m)))

reads_same : (x : Index) (buckets : List ℕ) (n : ℕ) (rs : List IndexRead) (otherwise : Verdict)
    → ((r : IndexRead) → Among r rs → x.stamp r.bucket ≡ stamp_of buckets r.bucket)
    → judge_reads x n rs otherwise ≡ judge_reads (stamps_view buckets) n rs otherwise
unfolding judge_reads bad_read
reads_same x buckets n [] otherwise p = refl
reads_same x buckets n (r ∷ rs) otherwise p = rw (p r (inl refl), reads_same x buckets n rs otherwise (λ r m. p r (inr m)))

pub verdict-model : (c : Chains) (x : Index) (versions buckets lists : List ℕ) (t : Transaction) → Agrees c x versions buckets (txn_view lists t)
    → verdict_of versions buckets lists t ≡ verdict_told (verdict c x (txn_view lists t))
unfolding verdict
verdict-model c x versions buckets lists t a =
    rw (
      reads_same x buckets t.number (txn_view lists t).reads (judge_records c t.number (txn_view lists t).snapshot (txn_view lists t).records)
          a.stamp-same,
      records-same c versions t.number (txn_view lists t).snapshot (txn_view lists t).records a.xmin-same a.xmax-same,
    )

-- the parts of the tables that a store's sizes name agree with the whole tables, where the lists name what is in the store
pub agrees-parts : (z : Sizes) (used : ℕ) (rows versions buckets : List ℕ) (t : Txn) → ((r : ReadRecord) → Among r t.records → r.ptr ≤ z.versions)
    → ((r : IndexRead) → Among r t.reads → r.bucket < z.buckets)
    → Agrees (chains_view (rows_part z rows) (versions_part z versions) used) (index_view (rows_part z rows) (buckets_part z buckets)) versions buckets t
agrees-parts z used rows versions buckets t ptrs bs = record {
  xmin-same = λ r m. part_field version_words 0 (suc z.versions) versions r.ptr (omega arith) (omega (arith, ptrs r m));
  xmax-same = λ r m. part_field version_words 1 (suc z.versions) versions r.ptr (omega arith) (omega (arith, ptrs r m));
  stamp-same = λ r m. part_field bucket_words 0 z.buckets buckets r.bucket (omega arith) (bs r m);
}
