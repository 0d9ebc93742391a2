-- Begin over the words is the model's.
-- Assumes nothing.
use Prim.Native.Nat.{ℕ, ◌+◌, ◌≤◌, ◌<◌}
use mathlib.Core.Path.{◌≡◌, refl, sym, ap, ◌∙◌}
use mathlib.Core.Bool.{Bool, true, false, cond, not, ◌&&◌, false≢true}
use mathlib.Core.Option.{none, some}
use mathlib.Core.List.{List, map}
use native.Mathlib.Nat.{zero-add}
use native.Mathlib.Decide.{dec_lt}
use native.Mathlib.Omega.{arith}
use lib.Dec.{eqb, ltb}
use lib.ListN.{length, get_or, length-map, get_or-map}
use borrow.Author.Tests.{eq-eqb, ne_eqb, le-leb, lt-leb, ltb-false}
use Rattle.base_limits.specs.Limits.{most_live, most_active, last_number}
use Rattle.base_lists.specs.Table.{update}
use Rattle.base_lists.specs.Lists.{pick}
use Rattle.base_lists.proofs.ListLaws.{and_l, pick-fewer}
use Rattle.model.specs.Store as model
use Rattle.model.specs.Seeing.{live, active, active_numbers}
use Rattle.model.specs.Steps.{new_txn}
use Rattle.model.specs.Refusals.{Full, NoNumbers, live_count, refusal}
use Rattle.model.specs.Machine.{checks, accepted, after_refusal, carried, step_in}
use Rattle.base_protocol.specs.declared.Step.TheVariants as ask
use Rattle.base_protocol.specs.View.{asked, refusal_told}
use Rattle.table.specs.Regions.{list_of}
use Rattle.txn.specs.View.{phase_view, txn_view}
use Rattle.txn.specs.Methods.{idle_of}
use Rattle.txn.specs.declared.Phase.{Phase}
use Rattle.txn.specs.declared.Phase.TheVariants as phase
use Rattle.txn.specs.declared.Transaction.{Transaction}
use Rattle.base_numbers.proofs.Laws.{one_up}
use Rattle.txn_begin.specs.Begin.{kept_none, snapshot_of, spent, begun_of, refused_begin, begin_of}
use Rattle.txn_places.specs.Places.{active_number, live_in, misses_of}
use Rattle.step.specs.Steps.{step_of, with_begun, stays}
use Rattle.step.specs.Words.{Words, view, txn_at, others_in, place_for, moved_by, SizedTxn, Sized}
use Rattle.txn_places.proofs.Laws.{default-any}
use Rattle.step_bridge.proofs.Places.{standing, number_at, there, nowhere, not_there, sized-at}
use Rattle.step_bridge.proofs.Placed.{txns-set, sized_set}
use Rattle.step_bridge.proofs.Same.{same_store, SameAt, Same, refused-same}
use Rattle.step_bridge.proofs.SameLaws.{same_from}
use Rattle.step_bridge.proofs.Starting.{nonzero, pick-nonzero, live-nonzero, pick_all, pick_less, keep-all}
use Rattle.model.proofs.Tests.{place-number}

-- a place's number is 0 exactly where it is not active
and-true : (b : Bool) → (b && true) ≡ b
and-true true = refl
and-true false = refl

and_none : (b : Bool) → (b && false) ≡ false
and_none true = refl
and_none false = refl

active-test : (n : ℕ) (ph : Phase) → (not (eqb n 0) && ltb (model.rank (phase_view ph)) model.phase_ended) ≡ not (eqb (active_number n ph) 0)
active-test n phase.Open = and-true (not (eqb n 0))
active-test n (phase.Holding b k) = and-true (not (eqb n 0))
active-test n (phase.Collected k) = and-true (not (eqb n 0))
active-test n phase.Prepared = and-true (not (eqb n 0))
active-test n phase.Installed = and-true (not (eqb n 0))
active-test n phase.Ended = and_none (not (eqb n 0))

active-value : (n : ℕ) (ph : Phase) → (not (eqb n 0) && ltb (model.rank (phase_view ph)) model.phase_ended) ≡ true → n ≡ active_number n ph
active-value n phase.Open e = refl
active-value n (phase.Holding b k) e = refl
active-value n (phase.Collected k) e = refl
active-value n phase.Prepared e = refl
active-value n phase.Installed e = refl
active-value n phase.Ended e = absurd (false≢true (sym (and_none (not (eqb n 0))) ∙ e))

abbrev active_of : Transaction → ℕ
active_of t = active_number t.number t.phase

active-at : (ts : List Transaction) (i : ℕ) → get_or (map active_of ts) i 0 ≡ active_of (get_or ts i (idle_of i))
active-at ts i = get_or-map active_of ts i (idle_of i)

-- as many are live
pub live_same : (w : Words) → length w.txns ≡ most_live → live_in (others_in w.txns).numbers ≡ live_count (view w).txns
unfolding live_count
live_same w eight =
    let xs = (others_in w.txns).numbers in
    let n : length xs ≡ most_live = length-map w.txns (λ (t : Transaction). t.number) ∙ eight in
    let e = pick-nonzero (λ i. (txn_at w i).number) (λ i. live ((view w).txns i)) 0 xs (λ i h. rw (zero-add i, number_at w.txns i))
    (λ i h q. rw (zero-add i, number_at w.txns i)) in
    live-nonzero 0 xs ∙ (zero-add (length (nonzero xs))
    ∙ (sym (ap length e) ∙ (length-map (pick (λ i. live ((view w).txns i)) 0 (length xs)) (λ i. (txn_at w i).number)
    ∙ ap (λ (m : ℕ). length (pick (λ i. live ((view w).txns i)) 0 m)) n)))

module _ (w : Words) (z : Sized w) where
  -- the same are active
  pub active-same : nonzero (others_in w.txns).active ≡ active_numbers (view w).txns
  unfolding active_numbers
  active-same =
      let xs = (others_in w.txns).active in
      let n : length xs ≡ most_live = length-map w.txns active_of ∙ z.eight in
      let e = pick-nonzero (λ i. (txn_at w i).number) (λ i. active ((view w).txns i)) 0 xs
      (λ i h. rw (zero-add i, active-at w.txns i) (active-test (txn_at w i).number (txn_at w i).phase))
      (λ i h q. rw (zero-add i, active-at w.txns i) (active-value (txn_at w i).number (txn_at w i).phase (rw (zero-add i) at q))) in
      sym e ∙ ap (λ (m : ℕ). map (λ i. (txn_at w i).number) (pick (λ i. active ((view w).txns i)) 0 m)) n

  -- a free place, and so fewer than eight live; none, and so eight
  pub few-live : standing w 0 < most_live → live_count (view w).txns < most_live
  unfolding live_count
  few-live l = let e : (txn_at w (standing w 0)).number ≡ 0 = place-number (view w) 0 l in
      pick_less (λ i. live ((view w).txns i)) 0 most_live (standing w 0) (omega arith) l (rw (eq-eqb (txn_at w (standing w 0)).number 0 e))

  pub all_live : most_live ≤ standing w 0 → live_count (view w).txns ≡ most_live
  unfolding live_count
  all_live l = pick_all (λ i. live ((view w).txns i)) 0 most_live (λ i a b. rw (ne_eqb (txn_at w i).number 0 (not_there w z 0 l i b)))

  few-active : standing w 0 < most_live → length (active_numbers (view w).txns) ≤ most_active
  unfolding live_count active_numbers
  few-active l = omega (
    arith,
    few-live l,
    length-map (pick (λ i. active ((view w).txns i)) 0 most_live) (λ i. ((view w).txns i).number),
    pick-fewer (λ i. active ((view w).txns i)) (λ i. live ((view w).txns i)) 0 most_live (λ i e. and_l _ _ e),
  )

  -- the snapshot
  begun-view : standing w 0 < most_live → w.clock < last_number → (xs : List ℕ) (t : Transaction)
      → txn_view xs (begun_of t (snapshot_of (others_in w.txns).active w.clock) w.clock).txn ≡ new_txn (view w)
  unfolding snapshot_of list_of
  begun-view l c xs t =
      let k = keep-all (others_in w.txns).active (kept_none w.clock) (omega (arith, few-active l, ap length active-same)) refl in
      rw (k.kept, k.lowest, active-same, one_up w.clock c)

  begun_sized : standing w 0 < most_live
      → SizedTxn (standing w 0) (begun_of (txn_at w (standing w 0)) (snapshot_of (others_in w.txns).active w.clock) w.clock).txn
  unfolding snapshot_of
  begun_sized l =
      let k = keep-all (others_in w.txns).active (kept_none w.clock) (omega (arith, few-active l, ap length active-same)) refl in
      record {
        slot = (sized-at w z (standing w 0)).slot;
        active = omega (arith, k.count, few-active l, ap length active-same);
        seven = k.room;
        reads = omega arith;
        writes = omega arith;
        records = omega arith;
        candidates = omega arith;
      }

  begun-at : standing w 0 < most_live → (b : Bool) → ltb last_number (w.clock + live_count (view w).txns + 2) ≡ b
      → SameAt w (standing w 0)
      (stays (with_begun (cond b (refused_begin (txn_at w (standing w 0)) w.clock (refusal_told NoNumbers))
      (begun_of (txn_at w (standing w 0)) (snapshot_of (others_in w.txns).active w.clock) w.clock)) w.used) w.tables)
      (carried (view w) (asked ask.Begin) (cond b (some NoNumbers) none))
  unfolding carried accepted after_refusal
  begun-at l true e = refused-same w z (standing w 0) NoNumbers
  begun-at l false e =
      let c : w.clock < last_number = omega (arith, ltb-false last_number (w.clock + live_count (view w).txns + 2) e) in
      record {
        store = same_store _ _ refl (one_up w.clock c) refl refl refl (txns-set w z (standing w 0) l w.tables.lists _ (λ j d. refl)
            ∙ ap (λ (y : model.Txn). update (view w).txns (standing w 0) y) (begun-view l c w.tables.lists (txn_at w (standing w 0))));
        answer = refl;
        lent = refl;
        sized = sized_set w z (standing w 0) l _ _ _ _ (begun_sized l) refl refl refl refl z.told;
      }

  moved-begin : (p : ℕ) → place_for w.txns ask.Begin ≡ p → p < most_live
      → moved_by w ask.Begin ≡ stays (with_begun (begin_of (others_in w.txns).active (live_count (view w).txns) w.clock (txn_at w p)) w.used) w.tables
  unfolding moved_by step_of misses_of
  moved-begin p e l = rw (e, default-any w.txns p (idle_of 0) (idle_of p) (omega (arith, z.eight)), live_same w z.eight)

  full_at : SameAt w 0 (stays (with_begun (refused_begin (txn_at w 0) w.clock (refusal_told Full)) w.used) w.tables)
      (carried (view w) (asked ask.Begin) (some Full))
  unfolding carried after_refusal
  full_at = refused-same w z 0 Full

  -- number = clock, clock up by 1
  pub begin-same : Same w ask.Begin
  unfolding step_in checks refusal begin_of spent
  begin-same = go (dec_lt (standing w 0) most_live)
    where
      go : Dec (standing w 0 < most_live) → Same w ask.Begin
      go (yes l) =
          let e : (txn_at w (standing w 0)).number ≡ 0 = place-number (view w) 0 l in
          same_from w ask.Begin (standing w 0) _ _ (there w z ask.Begin l)
          (moved-begin (standing w 0) (there w z ask.Begin l) l ∙ rw (eq-eqb (txn_at w (standing w 0)).number 0 e))
          (rw (lt-leb most_live (live_count (view w).txns) (few-live l)))
          (begun-at l (ltb last_number (w.clock + live_count (view w).txns + 2)) refl)
      go (no l) =
          let k : most_live ≤ standing w 0 = omega (arith, l) in
          same_from w ask.Begin 0 _ _ (nowhere w z ask.Begin k)
          (moved-begin 0 (nowhere w z ask.Begin k) (omega arith) ∙ rw (ne_eqb (txn_at w 0).number 0 (not_there w z 0 k 0 (omega arith))))
          (rw (le-leb most_live (live_count (view w).txns) (omega (arith, all_live k))))
          full_at
