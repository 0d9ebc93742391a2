-- The tests as the code makes them are the model's test of what the words stand for.
-- Assumes nothing.
use Prim.Native.Nat.{ℕ, zero, suc, ◌+◌, ◌*◌, ◌≤◌, ◌<◌}
use mathlib.Core.Path.{◌≡◌, refl, sym, ap, ◌∙◌}
use mathlib.Core.Bool.{Bool, true, false, not, ◌&&◌, ◌||◌}
use mathlib.Core.Logic.{inl, inr}
use mathlib.Core.List.{List, [], ◌∷◌, ◌++◌, map}
use native.Mathlib.Omega.{arith}
use lib.Dec.{eqb, ltb, leb}
use lib.ListN.{length, take, get_or, length-take}
use borrow.Author.Tests.{eqb-true, ltb-true, leb-true, le-leb}
use Rattle.base_limits.specs.Limits.{most_live, most_active, most_index_reads, most_writes, most_rows, last_number}
use Rattle.base_lists.specs.Lists.{every, all_of, Among}
use Rattle.base_lists.proofs.ListLaws.{and_l, and_r, same_test, each_all, every-each}
use Rattle.model.specs.Store as model
use Rattle.model.specs.Seeing.{live}
use Rattle.model.specs.Steps as steps
use Rattle.model.specs.Steps.{pending_rows, gets_version}
use Rattle.model.specs.Refusals.{reserved}
use Rattle.model.specs.Shape.{within, good_sizes, good_chains, good_counts, good_ranges, good_heads, good_txn, distinct_numbers, right_shape}
use Rattle.model.proofs.Ranges.{good-sized}
use Rattle.base_protocol.specs.declared.Extent.{Extent}
use Rattle.base_protocol.specs.declared.Sizes.{Sizes}
use Rattle.base_protocol.specs.View.{sizes_view}
use Rattle.table.specs.Fields.{row_words, version_words, head_of, next_of}
use Rattle.table.specs.Lists.{Kind, reads, writes, records, start_of, read_of, write_of, record_of, candidate_of, candidates, entry_at, list_at}
use Rattle.table.specs.Regions.{words, list_of}
use Rattle.table.specs.declared.lists.Write.{Write}
use Rattle.table.proofs.Parts.{part_field}
use Rattle.table.proofs.Spans.{list_length, list-map}
use Rattle.txn.specs.View.{phase_view, read_view, write_view, record_view, txn_view}
use Rattle.txn.specs.declared.Transaction.{Transaction}
use Rattle.txn_places.specs.Places.{live_in}
use Rattle.txn_needs.specs.Needs.{written_by}
use Rattle.txn_needs.specs.Versions.{reserved_in}
use Rattle.step.specs.Words.{Words, txn_at, view, others_in, extent_in}
use Rattle.step_bridge.proofs.Places.{number_at}
use Rattle.step_bridge.proofs.Listing.{all-each, every-at}
use Rattle.step_bridge.proofs.Beginning.{live_same}
use Rattle.step_bridge.proofs.Headed.{Headed, WritesIn, chains_in, headed-same, old-key-same}
use Rattle.step_bridge.proofs.Needing.{written-pending, pending-written}
use Rattle.step_bridge.proofs.Distinct.{gets-same}
use Rattle.step_bridge.proofs.Reserving.{reserved-same}
use Rattle.shape_chains.specs.ChainsShape.{chains_fit}
use Rattle.shape_txn.specs.TxnShape.{counts_fit, writes_in, ranges_fit, row_fits, heads_fit, least_of, txn_fits, place_fits}
use Rattle.shape.specs.Shape.{tables_lent, in_place, all_in_place, lists_in, tables_fit, shape_of}
use Rattle.shape.specs.Tests.{txns_fit, unlike, distinct_at, all_distinct, numbers_fit}

-- the second test matters only where the first holds
and_same : (a a' b b' : Bool) → a ≡ a' → (a' ≡ true → b ≡ b') → a && b ≡ a' && b'
and_same a true b b' e h = rw (e, h refl)
and_same a false b b' e h = rw e

and-true : (a : Bool) → a && true ≡ a
and-true true = refl
and-true false = refl

and_assoc : (a b c : Bool) → a && (b && c) ≡ a && b && c
and_assoc true b c = refl
and_assoc false b c = refl

-- ---- tests of every number

every-same : (n : ℕ) (test also : ℕ → Bool) → ((i : ℕ) → i < n → test i ≡ also i) → every n test ≡ every n also
unfolding every
every-same zero test also h = refl
every-same (suc n) test also h = rw (every-same n test also (λ i l. h i (omega arith)), h n (omega arith))

-- ---- tests of every entry

module _ {A : Type 0} where
  all_append : (test : A → Bool) (xs ys : List A) → all_of test (xs ++ ys) ≡ all_of test xs && all_of test ys
  unfolding all_of
  all_append test [] ys = refl
  all_append test (x ∷ xs) ys = rw (all_append test xs ys) (and_assoc (test x) (all_of test xs) (all_of test ys))

  all_same : (test also : A → Bool) (xs : List A) → ((x : A) → Among x xs → test x ≡ also x) → all_of test xs ≡ all_of also xs
  unfolding all_of
  all_same test also [] h = refl
  all_same test also (x ∷ xs) h = rw (h x (inl refl), all_same test also xs (λ y m. h y (inr m)))

  -- only which entries there are matters
  all_both : (test : A → Bool) (xs ys : List A) → ((x : A) → Among x xs → Among x ys) → ((x : A) → Among x ys → Among x xs) → all_of test xs ≡ all_of test ys
  all_both test xs ys to back = same_test _ _ (λ e. each_all test ys (λ x m. all-each test xs e x (back x m)))
      (λ e. each_all test xs (λ x m. all-each test ys e x (to x m)))

  all_listed : (test : A → Bool) (f : List ℕ → A) (w b : ℕ) (xs : List ℕ) (n : ℕ) → all_of test (list_of f w b xs n)
      ≡ every n (λ i. test (f (words w (b + w * i) xs)))
  unfolding all_of list_of every
  all_listed test f w b xs zero = refl
  all_listed test f w b xs (suc n) =
      all_append test (list_of f w b xs n) (f (words w (b + w * n) xs) ∷ [])
      ∙ rw (all_listed test f w b xs n, and-true (test (f (words w (b + w * n) xs))))

module _ {A B : Type 0} (g : A → B) (f : List ℕ → A) (k : Kind) (xs : List ℕ) (s n : ℕ) where
  entries : (test : B → Bool) → all_of test (map g (list_at f k xs s n)) ≡ every n (λ i. test (g (entry_at f k xs s i)))
  entries test = rw (list-map g f k.w (start_of k s) xs n) (all_listed test (λ ws. g (f ws)) k.w (start_of k s) xs n)

  entries-length : length (map g (list_at f k xs s n)) ≡ n
  entries-length = rw (list-map g f k.w (start_of k s) xs n) (list_length (λ ws. g (f ws)) k.w (start_of k s) xs n)

-- ---- a transaction

module _ (xs : List ℕ) (t : Transaction) where
  counts_same : t.snapshot.active_n ≤ most_active → good_counts (txn_view xs t) ≡ counts_fit t
  unfolding good_counts
  counts_same h =
      let few : length (take t.snapshot.active_n t.snapshot.active) ≤ most_active = rw length-take (omega arith) in
      rw (
        le-leb (length (take t.snapshot.active_n t.snapshot.active)) most_active few,
        entries-length read_view read_of reads xs t.slot t.reads_n,
        entries-length write_view write_of writes xs t.slot t.writes_n,
        entries-length record_view record_of records xs t.slot t.records_n,
        list_length candidate_of 1 (start_of candidates t.slot) xs t.candidates_n,
      )

  ranges-same : (e : Extent) → good_ranges (sizes_view e.sizes) e.used (txn_view xs t) ≡ ranges_fit xs e t
  unfolding good_ranges ranges_fit
  ranges-same e = rw (
    entries write_view write_of writes xs t.slot t.writes_n (λ (w : model.Write). ltb w.row e.sizes.rows),
    entries record_view record_of records xs t.slot t.records_n (λ (r : model.ReadRecord). ltb r.row e.sizes.rows && within r.ptr e.used),
    all_listed (λ r. ltb r e.sizes.rows) candidate_of 1 (start_of candidates t.slot) xs t.candidates_n,
    entries read_view read_of reads xs t.slot t.reads_n (λ (r : model.IndexRead). ltb r.bucket e.sizes.buckets),
  )

  writes-true : (e : Extent) → ranges_fit xs e t ≡ true → writes_in xs t e.sizes.rows ≡ true
  unfolding ranges_fit
  writes-true e h = and_l _ _ (and_l _ _ (and_l _ _ (and_l _ _ h)))

  -- the rows of the pending writes, all that the store has
  rows-below : (n : ℕ) → writes_in xs t n ≡ true → (r : ℕ) → Among r (written_by xs t) → r < n
  rows-below n e r m = ltb-true r n
      (all-each (λ v. ltb v n) (written_by xs t)
      (entries (λ (w : Write). w.row) write_of writes xs t.slot t.writes_n (λ v. ltb v n) ∙ e) r m)

-- where pointers are in the part of the table that its size names
module _ (rows versions xs : List ℕ) (z : Sizes) (used : ℕ) (g : Headed (sizes_view z) rows used) (t : Transaction) where
  abbrev chains : model.Chains
  chains = chains_in (sizes_view z) rows versions used

  row_same : t.writes_n ≤ most_writes → (r : ℕ) → r < z.rows → steps.headed_by chains t.number r || not (gets_version chains (txn_view xs t).writes r)
      ≡ row_fits rows versions xs t r
  row_same few r h =
      rw (
        headed-same (sizes_view z) rows versions used g t.number r h,
        gets-same rows versions xs t chains r few (old-key-same (sizes_view z) rows versions used g r h),
      )

  heads-same : t.writes_n ≤ most_writes → writes_in xs t z.rows ≡ true → good_heads (sizes_view z) chains (txn_view xs t)
      ≡ heads_fit rows versions xs t
  unfolding good_heads heads_fit
  heads-same few e =
      let rs = written_by xs t in
      let below = rows-below xs t z.rows e in
      let part : ℕ → Bool = λ r. steps.headed_by chains t.number r || not (gets_version chains (txn_view xs t).writes r) in
      let fit : ℕ → Bool = row_fits rows versions xs t in
      ap (λ (b : Bool). ltb (model.rank (phase_view t.phase)) 5 || b)
      (all_both part (pending_rows (sizes_view z) (txn_view xs t).writes) rs (λ r m. pending-written xs t.slot t.writes_n (sizes_view z) r m)
      (λ r m. written-pending xs t.slot t.writes_n (sizes_view z) r (below r m) m)
      ∙ (all_same part fit rs (λ r m. row_same few r (below r m))
      ∙ entries (λ (w : Write). w.row) write_of writes xs t.slot t.writes_n fit))

-- a live transaction's number and snapshot; its counts and ranges
abbrev seen_fits : ℕ → Transaction → Bool
seen_fits clock t = ltb t.number clock && eqb t.snapshot.xmin (least_of t)

few-in : (xs : List ℕ) (e : Extent) (t : Transaction) → seen_fits e.clock t && counts_fit t && ranges_fit xs e t ≡ true → t.writes_n ≤ most_writes
few-in xs e t f =
    let counts = and_r (seen_fits e.clock t) (counts_fit t) (and_l (seen_fits e.clock t && counts_fit t) (ranges_fit xs e t) f) in
    let two = and_l (leb t.reads_n most_index_reads && leb t.writes_n most_writes) _ (and_l _ (leb t.candidates_n most_rows) counts) in
    leb-true t.writes_n most_writes (and_r (leb t.reads_n most_index_reads) _ two)

module _ (rows versions xs : List ℕ) (e : Extent) (t : Transaction) (h : txn_fits rows versions xs e t ≡ true) where
  front_fits : seen_fits e.clock t && counts_fit t && ranges_fit xs e t ≡ true
  unfolding txn_fits
  front_fits = and_l (seen_fits e.clock t && counts_fit t && ranges_fit xs e t) (heads_fit rows versions xs t) h

  few-writes : t.writes_n ≤ most_writes
  few-writes = few-in xs e t front_fits

  writes-fit : writes_in xs t e.sizes.rows ≡ true
  writes-fit = writes-true xs t e (and_r (seen_fits e.clock t && counts_fit t) (ranges_fit xs e t) front_fits)

-- ---- the whole

-- the tests in the order of the code
abbrev pub tested : Words → Bool
tested w =
    tables_fit w
    && (good_sizes (sizes_view w.sizes)
    && leb 1 w.clock
    && chains_fit w.tables.rows w.tables.versions w.sizes w.used
    && txns_fit w.tables.rows w.tables.versions w.tables.lists (extent_in w) w.txns
    && all_distinct (others_in w.txns).numbers
    && leb (w.clock + live_in (others_in w.txns).numbers) last_number
    && leb (w.used + reserved_in w.tables.rows w.tables.versions w.tables.lists (others_in w.txns).prepared most_live) w.sizes.versions)

module _ (w : Words) where
  chains-same : good_chains (sizes_view w.sizes) (view w).chains ≡ chains_fit w.tables.rows w.tables.versions w.sizes w.used
  unfolding good_chains
  chains-same =
      and_same _ _ _ _
      (ap (λ (b : Bool). leb w.used w.sizes.versions && b)
      (every-same w.sizes.rows (λ r. leb ((view w).chains.head r) w.used) (λ r. leb (head_of w.tables.rows r) w.used)
      (λ r h. rw (part_field row_words 0 w.sizes.rows w.tables.rows r (omega arith) h))))
      (λ e.
      let room = leb-true w.used w.sizes.versions (and_l _ _ e) in
      every-same w.used (λ p. ltb ((view w).chains.next (suc p)) (suc p)) (λ p. ltb (next_of w.tables.versions (suc p)) (suc p))
      (λ p h. rw (part_field version_words 2 (suc w.sizes.versions) w.tables.versions (suc p) (omega arith) (omega arith))))

  -- no head is past the last used pointer
  fits-headed : chains_fit w.tables.rows w.tables.versions w.sizes w.used ≡ true → Headed (sizes_view w.sizes) w.tables.rows w.used
  fits-headed k =
      let test : ℕ → Bool = λ r. leb (head_of w.tables.rows r) w.used in
      let first = and_l (leb w.used w.sizes.versions && every w.sizes.rows test) _ k in
      record {
        room = leb-true w.used w.sizes.versions (and_l _ _ first);
        heads = λ r l. leb-true _ w.used (every-at w.sizes.rows test (and_r (leb w.used w.sizes.versions) _ first) r l);
      }

  module _ (eight : length w.txns ≡ most_live) where
    distinct-same : distinct_numbers (view w).txns ≡ all_distinct (others_in w.txns).numbers
    unfolding distinct_numbers
    distinct-same = every-same most_live _ (distinct_at (others_in w.txns).numbers)
        (λ i h. rw (number_at w.txns i) (go i (txn_at w i).number (eqb (txn_at w i).number 0)))
      where
        go : (i n : ℕ) (b : Bool) → every i (λ j. not (not b) || not (eqb n (txn_at w j).number)) ≡ b || unlike (others_in w.txns).numbers i n
        go i n true = every-each i _ (λ j l. refl)
        go i n false = every-same i (λ j. not (eqb n (txn_at w j).number)) (λ j. not (eqb n (get_or (others_in w.txns).numbers j 0)))
            (λ j l. rw (number_at w.txns j))

  module _ (places : all_in_place w.txns ≡ true) where
    place_in : (i : ℕ) → i < most_live → in_place i (txn_at w i) ≡ true
    place_in i h = every-at most_live (λ i. in_place i (txn_at w i)) places i h

    front-in : (i : ℕ) → i < most_live → eqb (txn_at w i).slot i && leb (txn_at w i).snapshot.active_n most_active ≡ true
    front-in i h = and_l _ (counts_fit (txn_at w i)) (place_in i h)

    few-active : (i : ℕ) → i < most_live → (txn_at w i).snapshot.active_n ≤ most_active
    few-active i h = leb-true _ most_active (and_r (eqb (txn_at w i).slot i) _ (front-in i h))

    own-slot : (i : ℕ) → i < most_live → (txn_at w i).slot ≡ i
    own-slot i h = eqb-true (txn_at w i).slot i (and_l _ (leb (txn_at w i).snapshot.active_n most_active) (front-in i h))

    txn-same : chains_fit w.tables.rows w.tables.versions w.sizes w.used ≡ true → (i : ℕ) → i < most_live
        → good_txn (view w) ((view w).txns i) ≡ txn_fits w.tables.rows w.tables.versions w.tables.lists (extent_in w) (txn_at w i)
    unfolding good_txn txn_fits
    txn-same k i h =
        let t = txn_at w i in
        and_same _ _ _ _
        (and_same _ _ _ _ (and_same (seen_fits w.clock t) _ _ _ refl (λ e. counts_same w.tables.lists t (few-active i h)))
        (λ e. ranges-same w.tables.lists t (extent_in w)))
        (λ e. heads-same w.tables.rows w.tables.versions w.tables.lists w.sizes w.used (fits-headed k) t
        (few-in w.tables.lists (extent_in w) t e) (writes-true w.tables.lists t (extent_in w) (and_r (seen_fits w.clock t && counts_fit t) _ e)))

    txns-same : chains_fit w.tables.rows w.tables.versions w.sizes w.used ≡ true
        → every most_live (λ i. not (live ((view w).txns i)) || good_txn (view w) ((view w).txns i))
        ≡ txns_fit w.tables.rows w.tables.versions w.tables.lists (extent_in w) w.txns
    unfolding place_fits
    txns-same k = every-same most_live _ _ (λ i h. go (eqb (txn_at w i).number 0) _ _ (txn-same k i h))
      where
        go : (b x y : Bool) → x ≡ y → not (not b) || x ≡ b || y
        go true x y e = refl
        go false x y e = e

    -- what is reserved, by the tests made before
    module _ (sizes : good_sizes (sizes_view w.sizes) ≡ true) (good : chains_fit w.tables.rows w.tables.versions w.sizes w.used ≡ true)
        (txns : txns_fit w.tables.rows w.tables.versions w.tables.lists (extent_in w) w.txns ≡ true) where
      live-fits : (i : ℕ) → i < most_live → eqb (txn_at w i).number 0 ≡ false
          → txn_fits w.tables.rows w.tables.versions w.tables.lists (extent_in w) (txn_at w i) ≡ true
      unfolding place_fits
      live-fits i h e =
          rw e at (every-at most_live
          (λ i. place_fits w.tables.rows w.tables.versions w.tables.lists (extent_in w) (txn_at w i)) txns i h)

      live-writes : (i : ℕ) → i < most_live → eqb (txn_at w i).number 0 ≡ false → WritesIn (sizes_view w.sizes) w.tables.lists (txn_at w i)
      live-writes i h e =
          let t = txn_at w i in
          let fits = live-fits i h e in
          record {
            few = few-writes _ _ w.tables.lists (extent_in w) t fits;
            below = rows-below w.tables.lists t w.sizes.rows (writes-fit _ _ w.tables.lists (extent_in w) t fits);
          }

      others_same : reserved_in w.tables.rows w.tables.versions w.tables.lists (others_in w.txns).prepared most_live
          ≡ reserved (sizes_view w.sizes) (view w).chains (view w).txns most_live
      others_same = reserved-same w (fits-headed good) (omega (arith, (good-sized (sizes_view w.sizes) sizes).rows-most)) own-slot live-writes

  -- the code's test is the model's, both ways
  pub shape-tested : length w.txns ≡ most_live → shape_of w ≡ tested w
  unfolding shape_of tables_fit right_shape
  shape-tested eight =
      let sizes = good_sizes (sizes_view w.sizes) && leb 1 w.clock in
      let chains = chains_fit w.tables.rows w.tables.versions w.sizes w.used in
      let txns = txns_fit w.tables.rows w.tables.versions w.tables.lists (extent_in w) w.txns in
      and_same (tables_fit w) (tables_fit w) (right_shape (view w)) _ refl
      (λ f.
      let lent = tables_lent w.tables.rows w.tables.versions w.tables.buckets w.tables.lists w.sizes in
      let places = and_r lent (all_in_place w.txns) (and_l (lent && all_in_place w.txns) (lists_in w) f) in
      and_same _ _ _ _
      (and_same _ _ _ _
      (and_same _ _ _ _
      (and_same _ _ _ _
      (and_same sizes _ _ _ refl (λ e. chains-same))
      (λ e. txns-same places (and_r sizes chains e)))
      (λ e. distinct-same eight))
      (λ e. ap (λ (n : ℕ). leb (w.clock + n) last_number) (sym (live_same w eight))))
      (λ e.
      let front : sizes && chains && txns ≡ true = and_l _ _ (and_l _ _ e) in
      let good = and_l (good_sizes (sizes_view w.sizes)) (leb 1 w.clock) (and_l sizes chains (and_l (sizes && chains) txns front)) in
      ap (λ (n : ℕ). leb (w.used + n) w.sizes.versions)
      (sym (others_same places good (and_r sizes chains (and_l (sizes && chains) txns front)) (and_r (sizes && chains) txns front)))))

-- the tests as the code groups them
grouped : (t g k c x n a b : Bool) → t && (g && k && c && x && n && a && b) ≡ t && g && k && c && x && (n && a && b)
grouped true g k c x n a b = let front = g && k && c && x in sym (and_assoc front (n && a) b ∙ ap (λ (q : Bool). q && b) (and_assoc front n a))
grouped false g k c x n a b = refl

pub shape_grouped : (w : Words) → length w.txns ≡ most_live → shape_of w
    ≡ tables_fit w
    && good_sizes (sizes_view w.sizes)
    && leb 1 w.clock
    && chains_fit w.tables.rows w.tables.versions w.sizes w.used
    && txns_fit w.tables.rows w.tables.versions w.tables.lists (extent_in w) w.txns
    && numbers_fit w.tables.rows w.tables.versions w.tables.lists (extent_in w) (others_in w.txns)
shape_grouped w eight =
    shape-tested w eight
    ∙ grouped
    (tables_fit w)
    (good_sizes (sizes_view w.sizes))
    (leb 1 w.clock)
    (chains_fit w.tables.rows w.tables.versions w.sizes w.used)
    (txns_fit w.tables.rows w.tables.versions w.tables.lists (extent_in w) w.txns)
    (all_distinct (others_in w.txns).numbers)
    (leb (w.clock + live_in (others_in w.txns).numbers) last_number)
    (leb (w.used + reserved_in w.tables.rows w.tables.versions w.tables.lists (others_in w.txns).prepared most_live) w.sizes.versions)
