-- The model's verdict by the places that the two scans answer.
-- Assumes nothing.
use Prim.Native.Nat.{ℕ, suc, ◌+◌, ◌<◌}
use mathlib.Core.Path.{◌≡◌, refl, ◌∙◌}
use mathlib.Core.Bool.{Bool, true, false, cond}
use mathlib.Core.List.{List, [], ◌∷◌, map}
use native.Mathlib.Omega.{arith}
use lib.ListN.{length, get_or}
use Rattle.std.specs.Prelude.{Option, Some, None}
use Rattle.model.specs.Verdict.{Clear, bad_read, judge_reads, judge_records, verdict}
use Rattle.model.specs.Verdict as judged
use Rattle.table.specs.Lists.{Kind, reads, records, read_of, record_of, entry_at, list_at}
use Rattle.table_scans.proofs.Places.{not-both}
use Rattle.base_protocol.specs.View.{verdict_told}
use Rattle.txn.specs.declared.Transaction.{Transaction}
use Rattle.txn.specs.View.{snapshot_view, read_view, record_view, reads_in, records_in}
use Rattle.write_verdict.specs.Judged.{versions_view, stamps_view, first_where, bad_in, changed_read, changed_record, bucket_told, row_told, verdict_of}
use Rattle.write_verdict.proofs.Laws.{entries-length, entries_at}

-- a scan that answers with its first entry where the test holds, by the place of that entry
module _ {A D : Type 0} (test : A → Bool) (says : A → D) (otherwise : D) (judge : List A → D) (none : judge [] ≡ otherwise)
    (next : (x : A) (xs : List A) → judge (x ∷ xs) ≡ cond (test x) (says x) (judge xs)) where
  at-by : (k : ℕ) (x : A) (xs : List A) (i : ℕ) (d : A) (b : Bool) → test x ≡ b
      → (first_where test (suc k) xs ≡ Some i → (j : ℕ) × (i ≡ suc k + j) × (j < length xs) × (judge xs ≡ says (get_or xs j d)))
      → cond b (Some k) (first_where test (suc k) xs) ≡ Some i → (j : ℕ) × (i ≡ k + j) × (j < suc (length xs)) × (judge (x ∷ xs) ≡ says (get_or (x ∷ xs) j d))
  at-by k x xs i d true e rest f = let q : k ≡ i = cc in (0, omega arith, omega arith, rw (next x xs, e))
  at-by k x xs i d false e rest f = let r = rest f in (suc r.0, omega (arith, r.1), omega (arith, r.2), rw (next x xs, e) r.3)

  judge-at : (k : ℕ) (xs : List A) (i : ℕ) (d : A) → first_where test k xs ≡ Some i
      → (j : ℕ) × (i ≡ k + j) × (j < length xs) × (judge xs ≡ says (get_or xs j d))
  unfolding first_where
  judge-at k [] i d e = absurd (not-both None i e refl)
  judge-at k (x ∷ xs) i d e = at-by k x xs i d (test x) refl (λ f. judge-at (suc k) xs i d f) e

  none-by : (k : ℕ) (x : A) (xs : List A) (b : Bool) → test x ≡ b → (first_where test (suc k) xs ≡ None → judge xs ≡ otherwise)
      → cond b (Some k) (first_where test (suc k) xs) ≡ None → judge (x ∷ xs) ≡ otherwise
  none-by k x xs true e rest f = absurd (not-both (Some k) k refl f)
  none-by k x xs false e rest f = rw (next x xs, e) (rest f)

  judge-none : (k : ℕ) (xs : List A) → first_where test k xs ≡ None → judge xs ≡ otherwise
  unfolding first_where
  judge-none k [] e = none
  judge-none k (x ∷ xs) e = none-by k x xs (test x) refl (λ f. judge-none (suc k) xs f) e

  -- over the entries of a slot's list, each seen through `view`
  pub judge-entry : {B : Type 0} (view : B → A) (f : List ℕ → B) (k : Kind) (xs : List ℕ) (s n i : ℕ)
      → first_where test 0 (map view (list_at f k xs s n)) ≡ Some i → judge (map view (list_at f k xs s n)) ≡ says (view (entry_at f k xs s i))
  judge-entry view f k xs s n i e =
      let d = view (entry_at f k xs s i) in
      let r = judge-at 0 (map view (list_at f k xs s n)) i d e in
      let q : r.0 ≡ i = omega (arith, r.1) in
      let l : i < n = omega (arith, r.2, entries-length view f k xs s n) in
      r.3 ∙ rw (q, entries_at view f k xs s n i d l)

  pub judge-nothing : (xs : List A) → first_where test 0 xs ≡ None → judge xs ≡ otherwise
  judge-nothing xs e = judge-none 0 xs e

module _ (versions buckets lists : List ℕ) (t : Transaction) where
  pub verdict-mark : t.marked ≡ true → verdict_of versions buckets lists t ≡ verdict_told judged.Mark
  unfolding verdict
  verdict-mark m = rw m

  pub verdict-bucket : t.marked ≡ false → (i : ℕ) → changed_read buckets lists t ≡ Some i
      → verdict_of versions buckets lists t ≡ bucket_told buckets lists t.slot i
  unfolding verdict judge_reads
  verdict-bucket m i e =
      let rest = judge_records (versions_view versions) t.number (snapshot_view t.snapshot) (records_in lists t) in
      rw (
        m,
        judge-entry (bad_read (stamps_view buckets) t.number) (λ r. judged.Bucket r.bucket r.stamp ((stamps_view buckets).stamp r.bucket)) rest
            (λ rs. judge_reads (stamps_view buckets) t.number rs rest) refl (λ x xs. refl) read_view read_of reads lists t.slot t.reads_n i e,
      )

  rows_told : (f : Option ℕ) → changed_record versions lists t ≡ f
      → verdict_told (judge_records (versions_view versions) t.number (snapshot_view t.snapshot) (records_in lists t)) ≡ row_told lists t.slot f
  unfolding judge_records
  rows_told (Some i) e =
      rw (judge-entry (bad_in versions t) (λ r. judged.Row r.row r.ptr) Clear
      (judge_records (versions_view versions) t.number (snapshot_view t.snapshot)) refl (λ x xs. refl) record_view record_of records lists t.slot
      t.records_n i e)
  rows_told None e =
      rw (judge-nothing (bad_in versions t) (λ r. judged.Row r.row r.ptr) Clear
      (judge_records (versions_view versions) t.number (snapshot_view t.snapshot)) refl (λ x xs. refl) (records_in lists t) e)

  pub verdict-row : t.marked ≡ false → changed_read buckets lists t ≡ None
      → verdict_of versions buckets lists t ≡ row_told lists t.slot (changed_record versions lists t)
  unfolding verdict judge_reads
  verdict-row m e =
      let rest = judge_records (versions_view versions) t.number (snapshot_view t.snapshot) (records_in lists t) in
      rw (
        m,
        judge-nothing (bad_read (stamps_view buckets) t.number) (λ r. judged.Bucket r.bucket r.stamp ((stamps_view buckets).stamp r.bucket)) rest
            (λ rs. judge_reads (stamps_view buckets) t.number rs rest) refl (λ x xs. refl) (reads_in lists t) e,
      ) (rows_told (changed_record versions lists t) refl)
