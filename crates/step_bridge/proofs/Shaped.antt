-- What right shape says of the words: sizes, pointers, room, and what each live transaction names.
-- Assumes nothing.
use Prim.Native.Nat.{ℕ, zero, suc, ◌+◌, ◌≤◌, ◌<◌}
use mathlib.Core.Path.{◌≡◌, ap}
use mathlib.Core.Bool.{Bool, true, not, ◌&&◌, ◌||◌}
use native.Mathlib.Decide.{dec_lt}
use native.Mathlib.Omega.{arith}
use lib.Dec.{eqb, ltb, leb}
use lib.ListN.{get_or-eq_default}
use borrow.Author.Tests.{ne_eqb, ltb-true, leb-true}
use Rattle.base_limits.specs.Limits.{most_live, last_number}
use Rattle.base_lists.specs.Lists.{least, every, all_of, Among}
use Rattle.base_lists.proofs.ListLaws.{and_l, and_r}
use Rattle.model.specs.Store as model
use Rattle.model.specs.Store.{bucket_in}
use Rattle.model.specs.Seeing.{live}
use Rattle.model.specs.Refusals.{live_count, reserved}
use Rattle.model.specs.Shape.{within, good_sizes, good_chains, good_counts, good_ranges, good_heads, good_txn, distinct_numbers, right_shape}
use Rattle.model.proofs.Ranges.{good-sized}
use Rattle.table.specs.Fields.{row_words}
use Rattle.table.proofs.Parts.{part-past}
use Rattle.txn.specs.Methods.{idle_of}
use Rattle.txn.specs.declared.Transaction.{Transaction}
use Rattle.step.specs.Words.{Words, view, txn_at, Sized}
use Rattle.step_bridge.proofs.Listing.{all-each, every-at}

-- what a transaction names is in the store
pub record InStore (w : Words) (p : ℕ) : Type 0 where
  pub reads-in : (r : model.IndexRead) → Among r ((view w).txns p).reads → r.bucket < w.sizes.buckets
  pub writes-in : (x : model.Write) → Among x ((view w).txns p).writes → x.row < w.sizes.rows
  pub records-in : (r : model.ReadRecord) → Among r ((view w).txns p).records → r.ptr ≤ w.used
  pub bucket-in : bucket_in ((view w).txns p).phase < w.sizes.buckets

-- what every step needs to know of the words
pub record Shaped (w : Words) : Type 0 where
  pub sizes : good_sizes (view w).sizes ≡ true
  pub heads-in : (r : ℕ) → (view w).chains.head r ≤ w.used
  pub next-falls : (p : ℕ) → 1 ≤ p → p ≤ w.used → (view w).chains.next p < p
  pub numbers-left : w.clock + live_count (view w).txns ≤ last_number
  pub versions-left : w.used + reserved (view w).sizes (view w).chains (view w).txns most_live ≤ w.sizes.versions
  pub in-store : (p : ℕ) → 1 ≤ (txn_at w p).number → InStore w p

-- five tests, one after another
all-five : (a b c d e : Bool) → a && b && c && d && e ≡ true → (a ≡ true) × (b ≡ true) × (c ≡ true) × (d ≡ true) × (e ≡ true)
all-five a b c d e h =
    let four = and_l (a && b && c && d) e h in
    let three = and_l (a && b && c) d four in
    let two = and_l (a && b) c three in
    (and_l a b two, and_r a b two, and_r (a && b) c three, and_r (a && b && c) d four, and_r (a && b && c && d) e h)

-- the tests of a transaction
module _ (w : Words) (p : ℕ) (e : good_txn (view w) ((view w).txns p) ≡ true) where
  abbrev x : model.Txn
  x = (view w).txns p

  abbrev record-in : model.ReadRecord → Bool
  record-in r = ltb r.row w.sizes.rows && within r.ptr w.used

  txn-in : InStore w p
  unfolding good_txn good_ranges
  txn-in =
      let t = all-five (ltb x.number w.clock) (eqb x.snapshot.xmin (least x.number x.snapshot.active)) (good_counts x)
      (good_ranges (view w).sizes w.used x) (good_heads (view w).sizes (view w).chains x) e in
      let rows : model.Write → Bool = λ v. ltb v.row w.sizes.rows in
      let kept : ℕ → Bool = λ r. ltb r w.sizes.rows in
      let buckets : model.IndexRead → Bool = λ r. ltb r.bucket w.sizes.buckets in
      let g = all-five (all_of rows x.writes) (all_of record-in x.records) (all_of kept x.candidates) (all_of buckets x.reads)
      (ltb (bucket_in x.phase) w.sizes.buckets) t.3 in
      record {
        reads-in = λ r m. ltb-true _ _ (all-each buckets x.reads g.3 r m);
        writes-in = λ v m. ltb-true _ _ (all-each rows x.writes g.0 v m);
        records-in = λ r m. leb-true r.ptr w.used
            (and_r (leb 1 r.ptr) _ (and_r (ltb r.row w.sizes.rows) _ (all-each record-in x.records g.1 r m)));
        bucket-in = ltb-true _ _ g.4;
      }

module _ (w : Words) (z : Sized w) (e : right_shape (view w) ≡ true) where
  -- past the eighth place nobody is live
  live-place : (p : ℕ) → 1 ≤ (txn_at w p).number → p < most_live
  live-place p l = elim (dec_lt p most_live) [
    | yes h ↦ h
    | no h ↦ let none = ap (λ (t : Transaction). t.number) (get_or-eq_default w.txns (idle_of p) {n = p} (omega (arith, h, z.eight))) in
        absurd (omega (arith, none))
  ]

  abbrev tested : ℕ → Bool
  tested i = not (live ((view w).txns i)) || good_txn (view w) ((view w).txns i)

  abbrev sizes-test : Bool
  sizes-test = good_sizes (view w).sizes && leb 1 w.clock

  abbrev clock-test : Bool
  clock-test = leb (w.clock + live_count (view w).txns) last_number

  abbrev room-test : Bool
  room-test = leb (w.used + reserved (view w).sizes (view w).chains (view w).txns most_live) w.sizes.versions

  front-holds : sizes-test && good_chains (view w).sizes (view w).chains && every most_live tested && distinct_numbers (view w).txns && clock-test ≡ true
  unfolding right_shape
  front-holds = and_l _ room-test e

  room : room-test ≡ true
  unfolding right_shape
  room = and_r (sizes-test && good_chains (view w).sizes (view w).chains && every most_live tested && distinct_numbers (view w).txns && clock-test) room-test e

  front : (sizes-test ≡ true) × (good_chains (view w).sizes (view w).chains ≡ true) × (every most_live tested ≡ true)
      × (distinct_numbers (view w).txns ≡ true) × (clock-test ≡ true)
  front = all-five sizes-test (good_chains (view w).sizes (view w).chains) (every most_live tested) (distinct_numbers (view w).txns) clock-test front-holds

  abbrev heads-test : Bool
  heads-test = every w.sizes.rows (λ q. leb ((view w).chains.head q) w.used)

  abbrev falls-test : Bool
  falls-test = every w.used (λ q. ltb ((view w).chains.next (suc q)) (suc q))

  head_in : (r : ℕ) → (view w).chains.head r ≤ w.used
  unfolding good_chains
  head_in r = elim (dec_lt r w.sizes.rows) [
    | yes h ↦ leb-true _ w.used
        (every-at w.sizes.rows (λ q. leb ((view w).chains.head q) w.used)
        (and_r (leb w.used w.sizes.versions) heads-test (and_l _ falls-test front.1)) r h)
    | no h ↦ rw (part-past row_words 0 w.sizes.rows w.tables.rows r (omega (arith, h))) (omega arith)
  ]

  falls : (p : ℕ) → 1 ≤ p → p ≤ w.used → (view w).chains.next p < p
  unfolding good_chains
  falls zero l h = absurd (omega arith)
  falls (suc p) l h = ltb-true _ _
      (every-at w.used (λ q. ltb ((view w).chains.next (suc q)) (suc q))
      (and_r (leb w.used w.sizes.versions && heads-test) falls-test front.1) p (omega arith))

  live_in : (p : ℕ) → 1 ≤ (txn_at w p).number → InStore w p
  live_in p l = txn-in w p (rw (ne_eqb (txn_at w p).number 0 (λ q. omega arith)) at (every-at most_live tested front.2 p (live-place p l)))

  pub shaped : Shaped w
  shaped = record {
    sizes = and_l (good_sizes (view w).sizes) (leb 1 w.clock) front.0;
    heads-in = head_in;
    next-falls = falls;
    numbers-left = leb-true _ last_number front.4;
    versions-left = leb-true _ w.sizes.versions room;
    in-store = live_in;
  }

-- there is a bucket
pub count-pos : (w : Words) → Shaped w → 1 ≤ w.sizes.buckets
count-pos w g = (good-sized (view w).sizes g.sizes).buckets-pos
