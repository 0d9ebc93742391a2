-- The run, and beside it the run in turn of those that have ended: what holds of the two, and that a step which ends nobody keeps it. Assumes nothing.
use mathlib.Core.Path.{◌≡◌, refl, sym, ap, ◌∙◌}
use mathlib.Core.Bool.{Bool, true, false, not, ◌&&◌}
use mathlib.Core.Logic.{◌≢◌, ⊎_elim}
use mathlib.Core.List.{List, [], ◌∷◌, ◌++◌, append-nil}
use Prim.Native.Nat.{ℕ, ◌+◌, ◌≤◌, ◌<◌}
use native.Mathlib.Omega.{arith}
use native.Mathlib.Decide.{ℕ_discrete}
use lib.Dec.{eqb, ltb}
use lib.ListN.{length}
use borrow.Author.Tests.{ne_eqb, ltb-true, ltb-false}
use Rattle.base_limits.specs.Limits.{most_live}
use Rattle.base_lists.specs.Lists.{Among}
use Rattle.base_lists.proofs.TableLaws.{update_same, update_other}
use Rattle.base_lists.proofs.ListLaws.{among-last}
use Rattle.model.specs.Store.{Sizes, Ended, Txn, Store, fresh, rank, phase_installed, phase_ended}
use Rattle.model.specs.Seeing.{Live}
use Rattle.model.specs.Steps.{with_phase, becomes, new_txn}
use Rattle.model.specs.Contents.{live_row}
use Rattle.model.specs.Machine.{run}
use Rattle.model.proofs.Phases.{rank-top}
use Rattle.model.proofs.Move.{Move, untouched}
use Rattle.model.proofs.Numbers.{Numbering, began, kept, numbering, clock-move}
use Rattle.model.proofs.Sums.{sum}
use Rattle.model.proofs.Good.{Good, sizes-move, good-move}
use Rattle.model.proofs.LiveRows.{live-kept}
use Rattle.model_in_turn.specs.Done.{Entry, entries}
use Rattle.model_in_turn.specs.InTurn.{end_in, end_order, is_publish, done_by, in_turn, one_by_one, steps_in}
use Rattle.model_in_turn.proofs.ByItself.{Local}
use Rattle.model_in_turn.proofs.Alone.{Quiet}
use Rattle.model_in_turn.proofs.Entries.{others_same, order-more, turn-same}
use Rattle.model_in_turn.proofs.Following.{Followed, follow-others}
use Rattle.model_in_turn.proofs.Counting.{waiting, running, over, Counted, counted-move}

-- who is followed under its own number is so under any that equals it
pub renamed : (s : Store) (i : ℕ) (es : List Entry) (n t : ℕ) → n ≡ t → (x : Local) × Followed s i n (done_by n es) x
    → (x : Local) × Followed s i t (done_by t es) x
renamed s i es n t e w = rw e at w

-- who has ended stays so
pub gone-move : (s s' : Store) {b : ℕ} → Move s b s' → (n : ℕ)
    → (n < s.clock) × ((i : ℕ) → Live (s.txns i) → (s.txns i).number ≡ n → rank (s.txns i).phase ≡ phase_ended)
    → (n < s'.clock) × ((i : ℕ) → Live (s'.txns i) → (s'.txns i).number ≡ n → rank (s'.txns i).phase ≡ phase_ended)
gone-move s s' m n h = (omega (arith, h.0, clock-move s s' m), go (numbering s s' m))
  where
    go : Numbering s s' → (i : ℕ) → Live (s'.txns i) → (s'.txns i).number ≡ n → rank (s'.txns i).phase ≡ phase_ended
    go (began j e a b c) i l p = elim (ℕ_discrete i j) [
      | yes d ↦ let q : (s'.txns j).number ≡ s.clock =
          ap (λ (w : Store). (w.txns j).number) e ∙ ap (λ (v : Txn). v.number) (update_same s.txns j (new_txn s)) in
          let r : (s'.txns i).number ≡ (s'.txns j).number = ap (λ k. (s'.txns k).number) d in absurd (omega (arith, h.0, p, q, r))
      | no d ↦ let same : s'.txns i ≡ s.txns i = ap (λ w. w.txns i) e ∙ update_other s.txns j (new_txn s) i d in
          rw same (h.1 i (rw same at l) (rw same at p))
    ]
    go (kept k u) i l p = top (ltb (rank (s'.txns i).phase) phase_ended) refl
      where
        same : (s'.txns i).number ≡ (s.txns i).number
        same = k.number i l

        top : (t : Bool) → ltb (rank (s'.txns i).phase) phase_ended ≡ t → rank (s'.txns i).phase ≡ phase_ended
        top true e = absurd (omega (arith, h.1 i (omega (arith, same, l)) (sym same ∙ p), k.running i l (ltb-true (rank (s'.txns i).phase) phase_ended e)))
        top false e = omega (arith, ltb-false (rank (s'.txns i).phase) phase_ended e, rank-top (s'.txns i).phase)

module _ (z : Sizes) (c₀ : ℕ) where
  -- the store after the turn
  abbrev pub serially : List Entry → Store
  serially es = run (fresh z c₀) (steps_in (one_by_one c₀ es))

  -- the turn of those that have ended, beside the run
  pub record Beside (s : Store) (es : List Entry) : Type 0 where
    -- every step is accepted, with the same read, and nobody is live
    pub same : entries (fresh z c₀) (steps_in (one_by_one c₀ es)) ≡ one_by_one c₀ es
    pub quiet : Quiet (serially es)
    pub sizes-are : (serially es).sizes ≡ s.sizes
    -- two numbers for each, and the live rows of the run
    pub clock-is : (serially es).clock ≡ c₀ + (length (end_order es) + length (end_order es))
    pub rows_are : (r : ℕ) → r < s.sizes.rows → live_row (serially es) r ≡ live_row s r
    -- the run has used more by the versions of those that are Installed; a number is left in turn for each that still runs
    pub used-is : (serially es).chains.used + sum (waiting s.sizes s.index.posted) s.txns most_live ≡ s.chains.used
    pub numbers : (serially es).clock + sum running s.txns most_live ≤ s.clock + sum over s.txns most_live

  -- all that is kept from step to step: who has not ended is followed, entries are of older numbers, who has ended stays so, and the turn
  pub record SideBySide (s : Store) (es : List Entry) : Type 0 where
    pub good : Good s
    pub follow : (i : ℕ) → Live (s.txns i) → rank (s.txns i).phase < phase_ended
        → (x : Local) × Followed s i (s.txns i).number (done_by (s.txns i).number es) x
    pub older : (e : Entry) → Among e es → e.who < s.clock
    pub gone : (n : ℕ) → Among n (end_order es) → (n < s.clock) × ((i : ℕ) → Live (s.txns i) → (s.txns i).number ≡ n → rank (s.txns i).phase ≡ phase_ended)
    pub beside : Beside s es

  -- nobody ends
  pub beside-still : (s s' : Store) (es es' : List Entry) → Beside s es → one_by_one c₀ es' ≡ one_by_one c₀ es → end_order es' ≡ end_order es
      → s'.sizes ≡ s.sizes → ((r : ℕ) → live_row s' r ≡ live_row s r) → Counted s s' → Beside s' es'
  beside-still s s' es es' h te oe zs live c = record {
    same = rw te h.same;
    quiet = rw te h.quiet;
    sizes-are = rw te (h.sizes-are ∙ sym zs);
    clock-is = rw (te, oe) h.clock-is;
    rows_are = λ r u. rw te (h.rows_are r (rw zs at u) ∙ sym (live r));
    used-is = rw (te, zs) (omega (arith, h.used-is, c.wait-is));
    numbers = rw te (omega (arith, h.numbers, c.count-is));
  }

  -- a step of the one at b that ends nobody, with its entry
  module _ (s s' : Store) (es : List Entry) (e : Entry) {b : ℕ} (m : Move s b s') (h : SideBySide s es)
      (end-none : end_in e.what ≡ [])
      (who-b : (i : ℕ) → i ≢ b → Live (s.txns i) → e.who ≢ (s.txns i).number)
      (who-old : e.who < s'.clock)
      (turn-free : (n : ℕ) → Among n (end_order es) → eqb e.who n && not (is_publish e.what) ≡ false)
      (not_five : Live (s.txns b) → rank (s.txns b).phase ≢ phase_installed)
      (own : Live (s'.txns b) → rank (s'.txns b).phase < phase_ended → (y : Local) × Followed s' b (s'.txns b).number
      (done_by (s'.txns b).number (es ++ (e ∷ []))) y) where
    g' : Good s'
    g' = good-move s s' h.good m

    -- it is no end, so the live rows and the order stay
    no_end : (i : ℕ) → Live (s.txns i) → rank (s.txns i).phase ≡ phase_installed → s' ≡ becomes s i Ended → ⊥
    no_end i l a c = elim (ℕ_discrete i b) [
      | yes d ↦ not_five (rw d at l) (rw d at a)
      | no d ↦ omega (
        arith,
        a,
        ap (λ (v : Txn). rank v.phase) (untouched s s' m i d),
        ap (λ w. rank (w.txns i).phase) c,
        ap (λ (v : Txn). rank v.phase) (update_same s.txns i (with_phase (s.txns i) Ended)),
      )
    ]

    order_same : end_order (es ++ (e ∷ [])) ≡ end_order es
    order_same = order-more es e ∙ (ap (λ l. end_order es ++ l) end-none ∙ append-nil (end_order es))

    pub beside-move : SideBySide s' (es ++ (e ∷ []))
    beside-move = record {
      good = g';
      follow = λ i l a. elim (ℕ_discrete i b) [ yes d ↦ rw d (own (rw d at l) (rw d at a)) | no d ↦ others i d l a ];
      older = λ d o. ⊎_elim (λ c. omega (arith, h.older d c, clock-move s s' m)) (λ c. rw c who-old) (among-last d e es o);
      gone = λ n o. gone-move s s' m n (h.gone n (rw order_same at o));
      beside = beside-still s s' es (es ++ (e ∷ [])) h.beside
          (ap (λ l. in_turn c₀ l (es ++ (e ∷ []))) order_same ∙ turn-same c₀ (end_order es) (es ++ (e ∷ [])) es (λ n o. others_same n es e (turn-free n o)))
          order_same (sizes-move s s' m) (live-kept s s' h.good g' m no_end) (counted-move s s' h.good m no_end);
    }
      where
        others : (i : ℕ) → i ≢ b → Live (s'.txns i) → rank (s'.txns i).phase < phase_ended
            → (y : Local) × Followed s' i (s'.txns i).number (done_by (s'.txns i).number (es ++ (e ∷ []))) y
        others i d l a =
            let same = untouched s s' m i d in
            let l₀ : Live (s.txns i) = rw same at l in
            let w = h.follow i l₀ (rw same at a) in
            let f = follow-others s s' i (s.txns i).number (done_by (s.txns i).number es) w.0 h.good g' m d w.1 in
            let free : eqb e.who (s.txns i).number && not (is_publish e.what) ≡ false = rw (ne_eqb e.who (s.txns i).number (who-b i d l₀)) refl in
            (w.0, rw (same, others_same (s.txns i).number es e free) f)
