-- The verdict: which cause it names, exactly when, in which order; and what upstream's conflict flags make of it. Assumes nothing.
use mathlib.Core.Path.{◌≡◌, refl, sym, ap, ◌∙◌}
use mathlib.Core.Bool.{Bool, true, false, cond, not, ◌&&◌, ◌||◌, true≢false}
use mathlib.Core.Logic.{◌↔◌, ◌⊎◌, inl, inr, ⊎_elim}
use mathlib.Core.List.{List, [], ◌∷◌, ◌++◌}
use Prim.Native.Nat.{ℕ}
use lib.Dec.{eqb}
use Rattle.base_lists.specs.Lists.{member, some_of, all_of, Among}
use Rattle.base_lists.proofs.ListLaws.{among-right, member-among, among-member, not-member}
use Rattle.model.specs.Store.{Chains, Index, IndexRead, ReadRecord, Snapshot, Txn}
use Rattle.model.specs.Verdict.{Verdict, Clear, Bucket, Row, Mark, verdict_number, bad_read, bad_record, judge_records, judge_reads, verdict}
use Rattle.model.specs.Causes.{ReadBad, ReadGood, RecordBad, RecordGood, First, AllReadsGood, AllRecordsGood, Cause, by-mark, by_read, by-record, by-none}
use Rattle.model.specs.Upstream.{read_conflict, reads_conflict, read_good, reads_good, index_read_conflict}
use Rattle.model.specs.Given.{◌and◌}
use Rattle.model.proofs.FirstTest.{Test, opposite, either, both, less, at_most, equal, any}
use Rattle.model.proofs.UpstreamLaws.{conflict-same, good-same}

-- the tests of an entry
among-test : (n : ℕ) (xs : List ℕ) → Test (member n xs) (Among n xs) (Among n xs → ⊥)
among-test n xs = record {
  holds = member-among n xs;
  fails = λ e m. true≢false (sym (among-member n xs m) ∙ e);
  if_yes = among-member n xs;
  if_no = not-member n xs;
}

pub read-bad : (i : Index) (n : ℕ) (r : IndexRead) → Test (bad_read i n r) (ReadBad i n r) (ReadGood i n r)
unfolding bad_read
read-bad i n r = either (opposite (equal (i.stamp r.bucket) r.stamp)) (opposite (less (i.stamp r.bucket) n))

pub record-bad : (c : Chains) (x : Txn) (q : ReadRecord) → Test (bad_record c x.number x.snapshot q) (RecordBad c x q) (RecordGood c x q)
unfolding bad_record
record-bad c x q = let m = c.xmax q.ptr in
    either (opposite (equal (c.xmin q.ptr) q.xmin))
    (both (both (opposite (equal m 0)) (opposite (equal m x.number))) (either (at_most x.snapshot.xmax m) (among-test m x.snapshot.active)))

-- a list is scanned to its first bad entry
scan : {A : Type 0} → (A → Bool) → (A → Verdict) → Verdict → List A → Verdict
scan test said otherwise [] = otherwise
scan test said otherwise (y ∷ ys) = cond (test y) (said y) (scan test said otherwise ys)

module _ {A : Type 0} (test : A → Bool) (Bad Good : A → Type 0) (t : (y : A) → Test (test y) (Bad y) (Good y)) (said : A → Verdict) (otherwise : Verdict) where
  scan-bad : (earlier later : List A) (y : A) → ((z : A) → Among z earlier → Good z) → Bad y → scan test said otherwise (earlier ++ (y ∷ later)) ≡ said y
  unfolding scan
  scan-bad [] later y good bad = rw ((t y).if_yes bad)
  scan-bad (z ∷ earlier) later y good bad = rw ((t z).if_no (good z (inl refl))) (scan-bad earlier later y (λ w m. good w (inr m)) bad)

  scan_good : (ys : List A) → ((z : A) → Among z ys → Good z) → scan test said otherwise ys ≡ otherwise
  unfolding scan
  scan_good [] good = refl
  scan_good (z ∷ ys) good = rw ((t z).if_no (good z (inl refl))) (scan_good ys (λ w m. good w (inr m)))

  scan-cases : (ys : List A) → ((y : A) × First Bad Good ys y × (scan test said otherwise ys ≡ said y))
      ⊎ (((z : A) → Among z ys → Good z) × (scan test said otherwise ys ≡ otherwise))
  unfolding scan
  scan-cases [] = inr ((λ z m. absurd m), refl)
  scan-cases (z ∷ ys) = go (test z) refl (scan-cases ys)
    where
      go : (b : Bool) → test z ≡ b → ((y : A) × First Bad Good ys y × (scan test said otherwise ys ≡ said y))
          ⊎ (((z : A) → Among z ys → Good z) × (scan test said otherwise ys ≡ otherwise))
          → ((y : A) × First Bad Good (z ∷ ys) y × (cond b (said z) (scan test said otherwise ys) ≡ said y))
          ⊎ (((w : A) → Among w (z ∷ ys) → Good w) × (cond b (said z) (scan test said otherwise ys) ≡ otherwise))
      go true e ih = inl (z, record { earlier = []; later = ys; stands = refl; good = λ w m. absurd m; bad = (t z).holds e }, refl)
      go false e (inl w) = inl (
        w.0,
        record {
          earlier = z ∷ w.1.earlier;
          later = w.1.later;
          stands = ap (λ l. z ∷ l) w.1.stands;
          good = λ y m. ⊎_elim (λ f. rw f ((t z).fails e)) (w.1.good y) m;
          bad = w.1.bad;
        },
        w.2,
      )
      go false e (inr w) = inr ((λ y m. ⊎_elim (λ f. rw f ((t z).fails e)) (w.0 y) m), w.1)

reads-scan : (i : Index) (n : ℕ) (o : Verdict) (rs : List IndexRead)
    → judge_reads i n rs o ≡ scan (bad_read i n) (λ r. Bucket r.bucket r.stamp (i.stamp r.bucket)) o rs
unfolding judge_reads scan
reads-scan i n o [] = refl
reads-scan i n o (r ∷ rs) = rw (reads-scan i n o rs)

records-scan : (c : Chains) (n : ℕ) (v : Snapshot) (qs : List ReadRecord) → judge_records c n v qs ≡ scan (bad_record c n v) (λ q. Row q.row q.ptr) Clear qs
unfolding judge_records scan
records-scan c n v [] = refl
records-scan c n v (q ∷ qs) = rw (records-scan c n v qs)

module _ (c : Chains) (i : Index) (x : Txn) where
  reads-cases : (o : Verdict)
      → ((r : IndexRead) × First (ReadBad i x.number) (ReadGood i x.number) x.reads r
      × (judge_reads i x.number x.reads o ≡ Bucket r.bucket r.stamp (i.stamp r.bucket)))
      ⊎ (AllReadsGood i x × (judge_reads i x.number x.reads o ≡ o))
  reads-cases o = rw (reads-scan i x.number o x.reads)
      (scan-cases (bad_read i x.number) (ReadBad i x.number) (ReadGood i x.number) (read-bad i x.number) _ o x.reads)

  records-cases : ((q : ReadRecord) × First (RecordBad c x) (RecordGood c x) x.records q
      × (judge_records c x.number x.snapshot x.records ≡ Row q.row q.ptr))
      ⊎ (AllRecordsGood c x × (judge_records c x.number x.snapshot x.records ≡ Clear))
  records-cases = rw (records-scan c x.number x.snapshot x.records)
      (scan-cases (bad_record c x.number x.snapshot) (RecordBad c x) (RecordGood c x) (record-bad c x) _ Clear x.records)

  caused : Cause c i x (verdict c i x)
  unfolding verdict
  caused = go x.marked refl
    where
      o : Verdict
      o = judge_records c x.number x.snapshot x.records

      go : (b : Bool) → x.marked ≡ b → Cause c i x (cond b Mark (judge_reads i x.number x.reads o))
      go true e = by-mark e
      go false e = ⊎_elim
          (λ w. rw w.2 (by_read w.0 e w.1 refl refl refl))
          (λ w. rw w.1 (⊎_elim (λ v. rw v.2 (by-record v.0 e w.0 v.1 refl refl)) (λ v. rw v.1 (by-none e w.0 v.0)) records-cases))
          (reads-cases o)

  -- all reads are good, so the records decide; all records are good, so nothing is in the way
  reads-good-is : AllReadsGood i x → (o : Verdict) → judge_reads i x.number x.reads o ≡ o
  reads-good-is g o = reads-scan i x.number o x.reads
      ∙ scan_good (bad_read i x.number) (ReadBad i x.number) (ReadGood i x.number) (read-bad i x.number) _ o x.reads g

  causes : (v : Verdict) → Cause c i x v → verdict c i x ≡ v
  unfolding verdict
  causes Mark (by-mark e) = rw e
  causes (Bucket b captured present) (by_read r e f p q w) =
      rw (e, reads-scan i x.number (judge_records c x.number x.snapshot x.records) x.reads, f.stands, p, q, w)
      (scan-bad (bad_read i x.number) (ReadBad i x.number) (ReadGood i x.number) (read-bad i x.number) _ _ f.earlier f.later r f.good
      f.bad)
  causes (Row row ptr) (by-record q e g f p w) =
      rw (
        e,
        reads-good-is g (judge_records c x.number x.snapshot x.records),
        records-scan c x.number x.snapshot x.records,
        f.stands,
        p,
        w,
      ) (scan-bad (bad_record c x.number x.snapshot) (RecordBad c x) (RecordGood c x) (record-bad c x) _ _ f.earlier f.later q f.good f.bad)
  causes Clear (by-none e g h) =
      rw (e, reads-good-is g (judge_records c x.number x.snapshot x.records)) (records-scan c x.number x.snapshot x.records
      ∙ scan_good (bad_record c x.number x.snapshot) (RecordBad c x) (RecordGood c x) (record-bad c x) _ Clear x.records h)

  -- the verdict is v exactly when v has its cause
  pub verdict-cause : (v : Verdict) → verdict c i x ≡ v ↔ Cause c i x v
  verdict-cause v = (λ e. rw e at caused, causes v)

  -- 3 exactly when marked
  pub verdict-3 : verdict c i x ≡ Mark ↔ x.marked ≡ true
  verdict-3 = (λ e. go ((verdict-cause Mark).0 e), λ e. causes Mark (by-mark e))
    where
      go : Cause c i x Mark → x.marked ≡ true
      go (by-mark m) = m

  -- 1 with bucket, captured and present stamp exactly for the first bad index read
  pub verdict-1 : (b captured present : ℕ) → verdict c i x ≡ Bucket b captured present
      ↔ (x.marked ≡ false) and ((r : IndexRead) × First (ReadBad i x.number) (ReadGood i x.number) x.reads r × (b ≡ r.bucket)
      × (captured ≡ r.stamp) × (present ≡ i.stamp r.bucket))
  verdict-1 b captured present = (
    λ e. go ((verdict-cause (Bucket b captured present)).0 e),
    λ w. causes (Bucket b captured present) (by_read w.1.0 w.0 w.1.1 w.1.2 w.1.3 w.1.4),
  )
    where
      go : Cause c i x (Bucket b captured present)
          → (x.marked ≡ false) and ((r : IndexRead) × First (ReadBad i x.number) (ReadGood i x.number) x.reads r × (b ≡ r.bucket)
          × (captured ≡ r.stamp) × (present ≡ i.stamp r.bucket))
      go (by_read r m f p q w) = (m, (r, f, p, q, w))

  -- 2 with row and pointer exactly for the first bad record, all reads good
  pub verdict-2 : (row ptr : ℕ) → verdict c i x ≡ Row row ptr
      ↔ (x.marked ≡ false) and AllReadsGood i x
      and ((q : ReadRecord) × First (RecordBad c x) (RecordGood c x) x.records q × (row ≡ q.row) × (ptr ≡ q.ptr))
  verdict-2 row ptr = (
    λ e. go ((verdict-cause (Row row ptr)).0 e),
    λ w. causes (Row row ptr) (by-record w.1.1.0 w.0 w.1.0 w.1.1.1 w.1.1.2 w.1.1.3),
  )
    where
      go : Cause c i x (Row row ptr)
          → (x.marked ≡ false) and AllReadsGood i x
          and ((q : ReadRecord) × First (RecordBad c x) (RecordGood c x) x.records q × (row ≡ q.row) × (ptr ≡ q.ptr))
      go (by-record q m g f p w) = (m, (g, (q, f, p, w)))

  -- 0 exactly when none of these
  pub verdict-0 : verdict c i x ≡ Clear ↔ (x.marked ≡ false) and AllReadsGood i x and AllRecordsGood c x
  verdict-0 = (λ e. go ((verdict-cause Clear).0 e), λ w. causes Clear (by-none w.0 w.1.0 w.1.1))
    where
      go : Cause c i x Clear → (x.marked ≡ false) and AllReadsGood i x and AllRecordsGood c x
      go (by-none m g h) = (m, (g, h))

-- UPSTREAM'S FLAGS

-- reads_good is that no read is bad
not_good : (i : Index) (n : ℕ) (rs : List IndexRead) → not (all_of (read_good i n) rs) ≡ some_of (bad_read i n) rs
unfolding all_of some_of
not_good i n [] = refl
not_good i n (r ∷ rs) = rw (good-same i n r, ← not_good i n rs) (go (bad_read i n r) (all_of (read_good i n) rs))
  where
    go : (a b : Bool) → not (not a && b) ≡ a || not b
    go true b = refl
    go false b = refl

module _ (c : Chains) (i : Index) (x : Txn) where
  reads-flag : Test (not (reads_good i x)) ((r : IndexRead) × Among r x.reads × ReadBad i x.number r) (AllReadsGood i x)
  unfolding reads_good
  reads-flag = rw (not_good i x.number x.reads) (any (bad_read i x.number) x.reads (read-bad i x.number))

  records-flag : Test (reads_conflict c x) ((q : ReadRecord) × Among q x.records × RecordBad c x q) (AllRecordsGood c x)
  unfolding reads_conflict
  records-flag = any (read_conflict c x) x.records (λ q. rw (conflict-same c x q) (record-bad c x q))

  -- the first bad entry is one of the list
  first-in : {A : Type 0} {Bad Good : A → Type 0} (xs : List A) (y : A) → First Bad Good xs y → Among y xs
  first-in xs y f = rw f.stands (among-right y f.earlier (y ∷ f.later) (inl refl))

  -- index_read_conflict is verdict 3 or 1; where it is not, reads_conflict is verdict 2
  index-flag : (v : Verdict) → Cause c i x v → index_read_conflict i x ≡ eqb (verdict_number v) 3 || eqb (verdict_number v) 1
  unfolding index_read_conflict reads_good
  index-flag Mark (by-mark e) = rw e
  index-flag (Bucket b captured present) (by_read r e f p q w) = rw (e, reads-flag.if_yes (r, first-in x.reads r f, f.bad))
  index-flag (Row row ptr) (by-record q e g f p w) = rw (e, reads-flag.if_no g)
  index-flag Clear (by-none e g h) = rw (e, reads-flag.if_no g)

  record-flag : (v : Verdict) → Cause c i x v → eqb (verdict_number v) 3 || eqb (verdict_number v) 1 ≡ false → reads_conflict c x ≡ eqb (verdict_number v) 2
  record-flag Mark (by-mark e) z = absurd (true≢false z)
  record-flag (Bucket b captured present) (by_read r e f p q w) z = absurd (true≢false z)
  record-flag (Row row ptr) (by-record q e g f p w) z = records-flag.if_yes (q, first-in x.records q f, f.bad)
  record-flag Clear (by-none e g h) z = records-flag.if_no h

  pub index-conflict : index_read_conflict i x ≡ eqb (verdict_number (verdict c i x)) 3 || eqb (verdict_number (verdict c i x)) 1
  index-conflict = index-flag (verdict c i x) ((verdict-cause c i x (verdict c i x)).0 refl)

  pub row-conflict : index_read_conflict i x ≡ false → reads_conflict c x ≡ eqb (verdict_number (verdict c i x)) 2
  row-conflict e = record-flag (verdict c i x) ((verdict-cause c i x (verdict c i x)).0 refl) (sym index-conflict ∙ e)

  -- upstream's outcome: there is a conflict exactly where the verdict is not 0
  pub any-conflict : index_read_conflict i x || reads_conflict c x ≡ not (eqb (verdict_number (verdict c i x)) 0)
  any-conflict = go (verdict c i x) ((verdict-cause c i x (verdict c i x)).0 refl)
    where
      go : (v : Verdict) → Cause c i x v → index_read_conflict i x || reads_conflict c x ≡ not (eqb (verdict_number v) 0)
      go Mark k = rw (index-flag Mark k)
      go (Bucket b captured present) k = rw (index-flag (Bucket b captured present) k)
      go (Row row ptr) k = rw (index-flag (Row row ptr) k, record-flag (Row row ptr) k refl)
      go Clear k = rw (index-flag Clear k, record-flag Clear k refl)
