-- Each clause that upstream ensures of its two conflict tests, as a fact about the scans and the verdict.
-- Assumes nothing.
use Prim.Native.Nat.{ℕ, zero, suc, ◌+◌, ◌<◌}
use mathlib.Core.Path.{◌≡◌, refl, sym, ◌∙◌}
use mathlib.Core.Bool.{Bool, true, false, cond, not, ◌&&◌, ◌||◌, true≢false}
use mathlib.Core.Logic.{◌↔◌}
use mathlib.Core.List.{List, [], ◌∷◌, map}
use native.Mathlib.Omega.{arith}
use lib.Dec.{eqb, ltb}
use lib.ListN.{length, get_or}
use Rattle.std.specs.Prelude.{Option, Some, None}
use Rattle.base_lists.proofs.ListLaws.{is_false}
use Rattle.model.specs.Verdict.{bad_read, bad_record}
use Rattle.table.specs.Fields.{xmin_of, xmax_of, stamp_of}
use Rattle.table.specs.Lists.{Kind, reads, records, read_of, record_of, read_at, entry_at, list_at}
use Rattle.table.specs.declared.lists.IndexRead.{IndexRead}
use Rattle.table.specs.declared.lists.ReadRecord.{ReadRecord}
use Rattle.table_scans.proofs.Places.{not-both}
use Rattle.base_protocol.specs.declared.Verdict.TheVariants as told
use Rattle.txn.specs.declared.Transaction.{Transaction}
use Rattle.txn.specs.View.{snapshot_view, read_view, record_view}
use Rattle.write_verdict.specs.Judged.{versions_view, stamps_view, first_where, bad_in, changed_read, changed_record, verdict_of}
use Rattle.write_verdict.specs.Upstream.{read_conflict, conflict_at, ReadsConflict, read_good, ReadsGood}
use Rattle.write_verdict.proofs.Laws.{entries-length, entries_at}
use Rattle.write_verdict.proofs.Judging.{verdict-mark, verdict-bucket, verdict-row}

-- the test holds at place i, and at none before
pub record FirstAt {A : Type 0} (test : A → Bool) (xs : List A) (d : A) (i : ℕ) : Type 0 where
  pub below : i < length xs
  pub holds : test (get_or xs i d) ≡ true
  pub before : (j : ℕ) → j < i → test (get_or xs j d) ≡ false

module _ {A : Type 0} (test : A → Bool) (d : A) where
  -- the test fails at each place below n
  abbrev Fails : List A → ℕ → Type 0
  Fails xs n = (j : ℕ) → j < n → test (get_or xs j d) ≡ false

  fails-cons : (x : A) (xs : List A) (n : ℕ) → test x ≡ false → Fails xs n → Fails (x ∷ xs) (suc n)
  fails-cons x xs n e h zero l = e
  fails-cons x xs n e h (suc j) l = h j (omega arith)

  first_by : (k : ℕ) (x : A) (xs : List A) (i : ℕ) (b : Bool) → test x ≡ b
      → (first_where test (suc k) xs ≡ Some i → (j : ℕ) × (i ≡ suc k + j) × FirstAt test xs d j)
      → cond b (Some k) (first_where test (suc k) xs) ≡ Some i → (j : ℕ) × (i ≡ k + j) × FirstAt test (x ∷ xs) d j
  first_by k x xs i true e rest f = let q : k ≡ i = cc in (0, omega arith, record { below = omega arith; holds = e; before = λ j h. absurd (omega arith) })
  first_by k x xs i false e rest f =
      let r = rest f in
      let w = r.2 in
      (suc r.0, omega (arith, r.1), record { below = omega (arith, w.below); holds = w.holds; before = fails-cons x xs r.0 e w.before })

  first-from : (k : ℕ) (xs : List A) (i : ℕ) → first_where test k xs ≡ Some i → (j : ℕ) × (i ≡ k + j) × FirstAt test xs d j
  unfolding first_where
  first-from k [] i e = absurd (not-both None i e refl)
  first-from k (x ∷ xs) i e = first_by k x xs i (test x) refl (λ f. first-from (suc k) xs i f) e

  pub where-at : (xs : List A) (i : ℕ) → first_where test 0 xs ≡ Some i → FirstAt test xs d i
  where-at xs i e = let r = first-from 0 xs i e in let q : i ≡ r.0 = omega (arith, r.1) in rw q r.2

  none-by : (k : ℕ) (x : A) (xs : List A) (b : Bool) → test x ≡ b → (first_where test (suc k) xs ≡ None → Fails xs (length xs))
      → cond b (Some k) (first_where test (suc k) xs) ≡ None → Fails (x ∷ xs) (suc (length xs))
  none-by k x xs true e rest f = absurd (not-both (Some k) k refl f)
  none-by k x xs false e rest f = fails-cons x xs (length xs) e (rest f)

  none_from : (k : ℕ) (xs : List A) → first_where test k xs ≡ None → Fails xs (length xs)
  unfolding first_where
  none_from k [] e = λ j h. absurd (omega arith)
  none_from k (x ∷ xs) e = none-by k x xs (test x) refl (λ f. none_from (suc k) xs f) e

  -- none exactly where the test fails at each place
  pub where-none : (xs : List A) → (first_where test 0 xs ≡ None) ↔ Fails xs (length xs)
  where-none xs = (none_from 0 xs, λ h. go h (first_where test 0 xs) refl)
    where
      go : Fails xs (length xs) → (f : Option ℕ) → first_where test 0 xs ≡ f → f ≡ None
      go h (Some i) e = let w = where-at xs i e in absurd (true≢false (sym w.holds ∙ h i w.below))
      go h None e = refl

-- over the entries of a slot's list, each seen through `view`
module _ {A B : Type 0} (test : B → Bool) (view : A → B) (f : List ℕ → A) (k : Kind) (xs : List ℕ) (s n : ℕ) where
  entries_none : (first_where test 0 (map view (list_at f k xs s n)) ≡ None) ↔ ((j : ℕ) → j < n → test (view (entry_at f k xs s j)) ≡ false)
  entries_none =
      let d = view (entry_at f k xs s 0) in
      let all = where-none test d (map view (list_at f k xs s n)) in (
        λ e j h. rw (entries_at view f k xs s n j d h) at (all.0 e j (omega (arith, entries-length view f k xs s n))),
        λ h. all.1 (λ j l. let m : j < n = omega (arith, entries-length view f k xs s n) in rw (entries_at view f k xs s n j d m) (h j m)),
      )

  entries-first : (i : ℕ) → first_where test 0 (map view (list_at f k xs s n)) ≡ Some i
      → (i < n) × (test (view (entry_at f k xs s i)) ≡ true) × ((j : ℕ) → j < i → test (view (entry_at f k xs s j)) ≡ false)
  entries-first i e =
      let d = view (entry_at f k xs s 0) in
      let w = where-at test d (map view (list_at f k xs s n)) i e in
      let h : i < n = omega (arith, w.below, entries-length view f k xs s n) in
      (h, rw (entries_at view f k xs s n i d h) at w.holds, λ j l. let m : j < n = omega arith in rw (entries_at view f k xs s n j d m) at (w.before j l))

module _ (versions lists : List ℕ) (t : Transaction) where
  -- `read_conflict` is the model's bad record
  pub read-conflict-is-bad : (r : ReadRecord) → bad_record (versions_view versions) t.number (snapshot_view t.snapshot) (record_view r)
      ≡ read_conflict (xmin_of versions r.ptr) (xmax_of versions r.ptr) r t.number t.snapshot
  unfolding bad_record
  read-conflict-is-bad r = refl

  -- `has_serialization_conflict`: r == reads_conflict(image, tx); none is false
  pub has-serialization-conflict-ensures : (changed_record versions lists t ≡ None) ↔ (ReadsConflict versions lists t → ⊥)
  unfolding bad_record
  has-serialization-conflict-ensures =
      let all = entries_none (bad_in versions t) record_view record_of records lists t.slot t.records_n in
      (λ e c. true≢false (sym c.2 ∙ all.0 e c.0 c.1), λ no. all.1 (λ j h. is_false _ (λ c. no (j, h, c))))

  -- and the place answered is that of the first record in conflict
  pub has-serialization-conflict-first : (i : ℕ) → changed_record versions lists t ≡ Some i
      → (i < t.records_n) × (conflict_at versions lists t i ≡ true) × ((j : ℕ) → j < i → conflict_at versions lists t j ≡ false)
  unfolding bad_record
  has-serialization-conflict-first i e = entries-first (bad_in versions t) record_view record_of records lists t.slot t.records_n i e

module _ (buckets lists : List ℕ) (t : Transaction) where
  -- `read_good` fails exactly where the model's index read is bad
  good-by : (a b : Bool) → (not a || not b) ≡ not (a && b)
  good-by true b = refl
  good-by false b = refl

  pub read-good-not-bad : (r : IndexRead) → bad_read (stamps_view buckets) t.number (read_view r) ≡ not (read_good (stamp_of buckets r.bucket) r t.number)
  unfolding bad_read
  read-good-not-bad r = good-by (eqb (stamp_of buckets r.bucket) r.stamp) (ltb (stamp_of buckets r.bucket) t.number)

  -- none of the index reads has changed exactly where `reads_good`
  pub reads-good-ensures : (changed_read buckets lists t ≡ None) ↔ ReadsGood buckets lists t
  reads-good-ensures =
      let all = entries_none (bad_read (stamps_view buckets) t.number) read_view read_of reads lists t.slot t.reads_n in (
        λ e i h. not-false _ (sym (read-good-not-bad (read_at lists t.slot i)) ∙ all.0 e i h),
        λ g. all.1 (λ j h. rw (read-good-not-bad (read_at lists t.slot j), g j h)),
      )
    where
      not-false : (b : Bool) → not b ≡ false → b ≡ true
      not-false true e = refl
      not-false false e = absurd (true≢false e)

-- conflict == (predicate_conflict || reads_conflict), where `index_read_conflict` is the mark, or not `reads_good`: the verdict is clear exactly where none
-- holds
module _ (versions buckets lists : List ℕ) (t : Transaction) where
  pub verdict-clear : (verdict_of versions buckets lists t ≡ told.Clear)
      ↔ ((t.marked ≡ false) × ReadsGood buckets lists t × (ReadsConflict versions lists t → ⊥))
  verdict-clear = (
    λ e. clear t.marked refl (changed_read buckets lists t) refl (changed_record versions lists t) refl e,
    λ g.
        verdict-row versions buckets lists t g.0 ((reads-good-ensures buckets lists t).1 g.1)
        ∙ rw ((has-serialization-conflict-ensures versions lists t).1 g.2),
  )
    where
      clear : (m : Bool) → t.marked ≡ m → (f : Option ℕ) → changed_read buckets lists t ≡ f → (g : Option ℕ) → changed_record versions lists t ≡ g
          → verdict_of versions buckets lists t ≡ told.Clear
          → (t.marked ≡ false) × ReadsGood buckets lists t × (ReadsConflict versions lists t → ⊥)
      clear true em f ef g eg e = let z : ◌≡◌ {A = ℕ} 0 1 = cc (verdict-mark versions buckets lists t em) in absurd (omega arith)
      clear false em (Some i) ef g eg e = let z : ◌≡◌ {A = ℕ} 0 1 = cc (verdict-bucket versions buckets lists t em i ef) in absurd (omega arith)
      clear false em None ef (Some i) eg e = let q = rw eg at (verdict-row versions buckets lists t em ef) in let z : ◌≡◌ {A = ℕ} 0 1 = cc in
          absurd (omega arith)
      clear false em None ef None eg e = (em, (reads-good-ensures buckets lists t).0 ef, (has-serialization-conflict-ensures versions lists t).0 eg)
