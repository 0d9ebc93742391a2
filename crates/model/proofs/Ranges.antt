-- Counts and ranges: the lists of every transaction are within their limits, and what they name is in the store. Assumes nothing.
use mathlib.Core.Path.{◌≡◌}
use mathlib.Core.Bool.{Bool, true, false, ◌&&◌}
use mathlib.Core.Logic.{◌⊎◌, inl, inr, ⊎_elim}
use mathlib.Core.Option.{some}
use mathlib.Core.List.{List, [], ◌∷◌, ◌++◌}
use Prim.Native.Nat.{ℕ, ◌≤◌, ◌<◌}
use native.Mathlib.Omega.{arith}
use native.Mathlib.Nat.{mod-lt}
use lib.Dec.{leb}
use lib.ListN.{length, length-append}
use borrow.Author.Tests.{leb-true}
use Rattle.base_limits.specs.Limits.{most_rows, most_versions, most_buckets, most_index_reads, most_records, most_writes}
use Rattle.base_lists.specs.Table.{update}
use Rattle.base_lists.proofs.TableLaws.{update-elim, cond-elim}
use Rattle.base_lists.specs.Lists.{Among, Rising}
use Rattle.base_lists.proofs.ListLaws.{and_l, and_r, among-last, pick-rising, pick-which, pick-few}
use Rattle.model.specs.Store.{Sizes, Installed, IndexRead, ReadRecord, Write, Txn, Store, fresh, bucket_in, key_in, same_key, bucket_of}
use Rattle.model.specs.Seeing.{pending, record_of}
use Rattle.model.specs.Steps.{with_phase, has_read, add_read, posted_rows, records_after, found_rows, version_rows}
use Rattle.model.specs.Shape.{within, good_sizes}
use Rattle.model.proofs.Move.{CanCapture, Move, stay, did-begin, did-mark, did-capture, did-collect, did-rows, did_write, did-prepare, did-install}
use Rattle.model.proofs.Move.{did-end, did-publish, did-abort}
use Rattle.model.proofs.SeeingLaws.{key_at-pos, version-in, match-version, add_read-cases, record_all-cases, found-which}
use Rattle.model.proofs.Room.{used-pushAll}

-- sizes within limits
pub record Sized (z : Sizes) : Type 0 where
  pub rows-pos : 1 ≤ z.rows
  pub rows-most : z.rows ≤ most_rows
  pub versions-most : z.versions ≤ most_versions
  pub buckets-pos : 1 ≤ z.buckets
  pub buckets-most : z.buckets ≤ most_buckets

pub good-sized : (z : Sizes) → good_sizes z ≡ true → Sized z
unfolding good_sizes
good-sized z e =
    let ab = and_l (within z.rows most_rows && within z.versions most_versions) (within z.buckets most_buckets) e in
    let a = and_l (within z.rows most_rows) (within z.versions most_versions) ab in
    let b = and_r (within z.rows most_rows) (within z.versions most_versions) ab in
    let c = and_r (within z.rows most_rows && within z.versions most_versions) (within z.buckets most_buckets) e in
    record {
      rows-pos = leb-true 1 z.rows (and_l (leb 1 z.rows) (leb z.rows most_rows) a);
      rows-most = leb-true z.rows most_rows (and_r (leb 1 z.rows) (leb z.rows most_rows) a);
      versions-most = leb-true z.versions most_versions (and_r (leb 1 z.versions) (leb z.versions most_versions) b);
      buckets-pos = leb-true 1 z.buckets (and_l (leb 1 z.buckets) (leb z.buckets most_buckets) c);
      buckets-most = leb-true z.buckets most_buckets (and_r (leb 1 z.buckets) (leb z.buckets most_buckets) c);
    }

-- the lists of a transaction
pub record Fits (z : Sizes) (used : ℕ) (reads : List IndexRead) (writes : List Write) (records : List ReadRecord) (candidates : List ℕ) : Type 0 where
  pub reads-few : length reads ≤ most_index_reads
  pub writes-few : length writes ≤ most_writes
  pub records-few : length records ≤ most_records
  pub candidates-few : length candidates ≤ most_rows
  pub reads-in : (r : IndexRead) → Among r reads → r.bucket < z.buckets
  pub writes-in : (w : Write) → Among w writes → w.row < z.rows
  pub records-in : (r : ReadRecord) → Among r records → (r.row < z.rows) × (1 ≤ r.ptr) × (r.ptr ≤ used)
  pub candidates-in : (r : ℕ) → Among r candidates → r < z.rows
  pub candidates-rise : Rising 0 candidates

abbrev pub FitsTxn : Sizes → ℕ → Txn → Type 0
FitsTxn z used x = Fits z used x.reads x.writes x.records x.candidates × (bucket_in x.phase < z.buckets)

abbrev pub RangesAt : Store → Type 0
RangesAt s = (j : ℕ) → FitsTxn s.sizes s.chains.used (s.txns j)

pub bucket-in : (z : Sizes) → Sized z → (k : ℕ) → bucket_of z k < z.buckets
unfolding bucket_of
bucket-in z h k = mod-lt k h.buckets-pos

fits-none : (z : Sizes) (used : ℕ) → Fits z used [] [] [] []
fits-none z used = record {
  reads-few = omega arith;
  writes-few = omega arith;
  records-few = omega arith;
  candidates-few = omega arith;
  reads-in = λ r m. absurd m;
  writes-in = λ w m. absurd m;
  records-in = λ r m. absurd m;
  candidates-in = λ r m. absurd m;
  candidates-rise = tt;
}

fits-up : (z : Sizes) (used used' : ℕ) (reads : List IndexRead) (writes : List Write) (records : List ReadRecord) (candidates : List ℕ) → used ≤ used'
    → Fits z used reads writes records candidates → Fits z used' reads writes records candidates
fits-up z used used' reads writes records candidates h g = record {
  reads-few = g.reads-few;
  writes-few = g.writes-few;
  records-few = g.records-few;
  candidates-few = g.candidates-few;
  reads-in = g.reads-in;
  writes-in = g.writes-in;
  records-in = λ r m. let w = g.records-in r m in (w.0, w.1, omega arith);
  candidates-in = g.candidates-in;
  candidates-rise = g.candidates-rise;
}

add-few : (rs : List IndexRead) (b stamp : ℕ) → (has_read rs b ≡ true) ⊎ (length rs < most_index_reads) → length rs ≤ most_index_reads
    → length (add_read rs b stamp) ≤ most_index_reads
unfolding add_read
add-few rs b stamp (inl e) h = rw e h
add-few rs b stamp (inr l) h =
    cond-elim (λ qs. length qs ≤ most_index_reads) (has_read rs b) rs (rs ++ (record { bucket = b; stamp = stamp } ∷ [])) (λ e. h)
    (λ e. rw (length-append rs (record { bucket = b; stamp = stamp } ∷ [])) (omega arith))

module _ (s : Store) (i : ℕ) (z : Sized s.sizes) (g : RangesAt s) where
  -- one place changes
  ranges-set : (x : Txn) → FitsTxn s.sizes s.chains.used x → (j : ℕ) → FitsTxn s.sizes s.chains.used (update s.txns i x j)
  ranges-set x h j = update-elim (λ y. FitsTxn s.sizes s.chains.used y) s.txns i x j (λ e. h) (λ d. g j)

  fits-capture : (k : ℕ) → CanCapture s i k
      → Fits s.sizes s.chains.used (add_read (s.txns i).reads (bucket_of s.sizes k) (s.index.stamp (bucket_of s.sizes k)))
      (s.txns i).writes (s.txns i).records (s.txns i).candidates
  fits-capture k c = let f = (g i).0 in record {
    reads-few = add-few _ _ _ c.room f.reads-few;
    writes-few = f.writes-few;
    records-few = f.records-few;
    candidates-few = f.candidates-few;
    reads-in = λ r m. ⊎_elim (λ n. f.reads-in r n) (λ e. rw e (bucket-in s.sizes z k))
        (add_read-cases (s.txns i).reads (bucket_of s.sizes k) (s.index.stamp (bucket_of s.sizes k)) r m);
    writes-in = f.writes-in;
    records-in = f.records-in;
    candidates-in = f.candidates-in;
    candidates-rise = f.candidates-rise;
  }

  fits-collect : (k : ℕ) → Fits s.sizes s.chains.used (s.txns i).reads (s.txns i).writes (s.txns i).records (posted_rows s k)
  unfolding posted_rows
  fits-collect k = let f = (g i).0 in let test : ℕ → Bool = λ r. same_key (s.index.posted r) (some k) in record {
    reads-few = f.reads-few;
    writes-few = f.writes-few;
    records-few = f.records-few;
    candidates-few = omega (arith, pick-few test 0 s.sizes.rows, z.rows-most);
    reads-in = f.reads-in;
    writes-in = f.writes-in;
    records-in = f.records-in;
    candidates-in = λ r m. omega (arith, (pick-which test 0 s.sizes.rows r m).1);
    candidates-rise = pick-rising test 0 s.sizes.rows;
  }

  fits-rows : length (records_after s (s.txns i)) ≤ most_records
      → Fits s.sizes s.chains.used (s.txns i).reads (s.txns i).writes (records_after s (s.txns i)) []
  fits-rows h = let f = (g i).0 in record {
    reads-few = f.reads-few;
    writes-few = f.writes-few;
    records-few = h;
    candidates-few = omega arith;
    reads-in = f.reads-in;
    writes-in = f.writes-in;
    records-in = λ r m. ⊎_elim (λ n. f.records-in r n) (λ w. read r w)
        (record_all-cases s.chains (s.txns i) (s.txns i).records (found_rows s (s.txns i)) r m);
    candidates-in = λ r m. absurd m;
    candidates-rise = tt;
  }
    where
      read : (q : ReadRecord) → (r : ℕ) × Among r (found_rows s (s.txns i)) × (pending (s.txns i).writes r ≡ false)
          × (q ≡ record_of s.chains (s.txns i).snapshot r)
          → (q.row < s.sizes.rows) × (1 ≤ q.ptr) × (q.ptr ≤ s.chains.used)
      read q w =
          let f = found-which s (s.txns i) w.0 w.1 in
          let k = match-version s.chains (s.txns i) (key_in (s.txns i).phase) w.0 w.2 f.1 in
          let v = version-in s.chains (s.txns i).snapshot w.0 (key_at-pos s.chains _ _ k) in
          rw w.3 (f.0, v.0, v.1)

  fits-write : (w : Write) → w.row < s.sizes.rows → length (s.txns i).writes < most_writes
      → Fits s.sizes s.chains.used (s.txns i).reads ((s.txns i).writes ++ (w ∷ [])) (s.txns i).records (s.txns i).candidates
  fits-write w l h = let f = (g i).0 in record {
    reads-few = f.reads-few;
    writes-few = rw (length-append (s.txns i).writes (w ∷ [])) (omega arith);
    records-few = f.records-few;
    candidates-few = f.candidates-few;
    reads-in = f.reads-in;
    writes-in = λ v m. ⊎_elim (λ n. f.writes-in v n) (λ e. rw e l) (among-last v w (s.txns i).writes m);
    records-in = f.records-in;
    candidates-in = f.candidates-in;
    candidates-rise = f.candidates-rise;
  }

pub ranges-move : (s s' : Store) {a : ℕ} → Sized s.sizes → RangesAt s → Move s a s' → RangesAt s'
ranges-move s s' = go s'
  where
    go : {a : ℕ} (s' : Store) → Sized s.sizes → RangesAt s → Move s a s' → RangesAt s'
    go s' z g (stay i) = g
    go s' z g (did-begin i a b c d) = ranges-set s i z g _ (fits-none _ _, z.buckets-pos)
    go s' z g (did-mark i a b) = ranges-set s i z g _ (g i)
    go s' z g (did-capture i k a b c) = ranges-set s i z g _ (fits-capture s i z g k c, bucket-in s.sizes z k)
    go s' z g (did-collect i a b) = ranges-set s i z g _ (fits-collect s i z g _, z.buckets-pos)
    go s' z g (did-rows i a b c) = ranges-set s i z g _ (fits-rows s i z g c, z.buckets-pos)
    go s' z g (did_write i w a b c d) = ranges-set s i z g _ (fits-write s i z g w c d, (g i).1)
    go s' z g (did-prepare i a b c) = ranges-set s i z g _ ((g i).0, z.buckets-pos)
    go s' z g (did-install i a b) = λ j.
        let h = ranges-set s i z g (with_phase (s.txns i) Installed) ((g i).0, z.buckets-pos) j in
        (fits-up _ _ _ _ _ _ _ (omega (arith, used-pushAll (s.txns i) (version_rows s.sizes s.chains (s.txns i).writes) s.chains)) h.0, h.1)
    go s' z g (did-end i a b) = ranges-set s i z g _ ((g i).0, z.buckets-pos)
    go s' z g (did-publish i a b) = ranges-set s i z g _ (fits-none _ _, z.buckets-pos)
    go s' z g (did-abort i a b) = ranges-set s i z g _ (fits-none _ _, z.buckets-pos)

pub ranges-fresh : (z : Sizes) (clock : ℕ) → Sized z → RangesAt (fresh z clock)
ranges-fresh z clock h j = (fits-none _ _, h.buckets-pos)
