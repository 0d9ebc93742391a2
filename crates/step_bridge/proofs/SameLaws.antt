-- From one frame of a step to the other: what is the same at a place is the same as the step.
-- Assumes nothing.
use Prim.Native.Nat.{ℕ, ◌<◌, ◌≤◌}
use mathlib.Core.Path.{◌≡◌, refl, sym, ap, subst, ◌∙◌}
use mathlib.Core.Bool.{true, false, not, ◌||◌}
use mathlib.Core.Logic.{◌≢◌}
use native.Mathlib.Decide.{ℕ_discrete, dec_lt}
use native.Mathlib.Omega.{arith}
use lib.Dec.{eqb, ltb}
use borrow.Author.Tests.{eq-eqb, ne_eqb, lt-ltb, le-ltb}
use Rattle.base_limits.specs.Limits.{most_live}
use Rattle.model.specs.Store as model
use Rattle.model.specs.Refusals.{Step as Asked, NoSuch, place_of, refusal}
use Rattle.model.specs.Machine as machine
use Rattle.model.specs.Machine.{rule, actor, gives, lent_after, carried, after_refusal, step_in}
use Rattle.model.specs.Given.{Names}
use Rattle.model.proofs.Ruled.{ruled}
use Rattle.model.proofs.Tests.{place-number}
use Rattle.base_protocol.specs.declared.Step.{Step}
use Rattle.base_protocol.specs.declared.Answer.{Answer}
use Rattle.base_protocol.specs.declared.Answer.TheVariants as tell
use Rattle.base_protocol.specs.View.{asked, refusal_told}
use Rattle.txn.specs.Methods.{idle_of}
use Rattle.txn_places.specs.Places.{wanted_of, is_begin, misses_of}
use Rattle.step.specs.Steps.{Moved, done_by, step_of}
use Rattle.step.specs.Words.{Words, view, txn_at, place_for, beside, moved_by, Sized}
use Rattle.txn_places.proofs.Laws.{default-any}
use Rattle.step_bridge.proofs.Places.{standing, there, nowhere, place_in, not_there}
use Rattle.step_bridge.proofs.Placed.{after, unmoved}
use Rattle.step_bridge.proofs.Same.{SameAt, SameAs, Same, later-tests, refused-same}

pub same_from : (w : Words) (s : Step) (p : ℕ) (m : Moved) (out : machine.Stepped) {m' : Moved} → place_for w.txns s ≡ p → m' ≡ m
    → step_in (view w) (asked s) ≡ out → SameAt w p m out → SameAs w s m'
same_from w s p m out {m'} a b c h =
    let e : after w (place_for w.txns s) m' ≡ after w p m = ap (λ (q : ℕ). after w q m') a ∙ ap (λ (x : Moved). after w p x) b in
    record {
      store = ap (λ (x : Words). view x) e ∙ (h.store ∙ sym (ap (λ (o : machine.Stepped). o.store) c));
      answer = rw (b, c) h.answer;
      lent = rw (b, c) h.lent;
      sized = subst (λ (x : Words). Sized x) (sym e) h.sized;
    }

-- the model refuses with 4; else it goes on with the phase
module _ (v : model.Store) (a : Asked) (n : Names a) where
  none-model : eqb (actor a) 0 || not (ltb (place_of v.txns (actor a)) most_live) ≡ true → step_in v a ≡ gives v (machine.Refused NoSuch)
  unfolding step_in carried refusal after_refusal
  none-model h = rw ((ruled v a).finds-first n, h)

  found-model : eqb (actor a) 0 || not (ltb (place_of v.txns (actor a)) most_live) ≡ false → step_in v a ≡ carried v a (refusal (later-tests v a))
  unfolding step_in refusal
  found-model h = rw ((ruled v a).finds-first n, h)

module _ (w : Words) (z : Sized w) (s : Step) (b : is_begin s ≡ false) where
  moved_none : (p : ℕ) → place_for w.txns s ≡ p → p < most_live → eqb (wanted_of s) 0 || not (eqb (txn_at w p).number (wanted_of s)) ≡ true
      → moved_by w s ≡ unmoved w p (tell.Refused (refusal_told NoSuch))
  unfolding moved_by step_of misses_of
  moved_none p e l h = rw (e, default-any w.txns p (idle_of 0) (idle_of p) (omega (arith, z.eight)), b, h)

  moved-found : (p : ℕ) → place_for w.txns s ≡ p → p < most_live → eqb (wanted_of s) 0 || not (eqb (txn_at w p).number (wanted_of s)) ≡ false
      → moved_by w s ≡ done_by w.tables (beside w (txn_at w p)) s
  unfolding moved_by step_of misses_of
  moved-found p e l h = rw (e, default-any w.txns p (idle_of 0) (idle_of p) (omega (arith, z.eight)), b, h)

  -- a step that names a transaction, and what is done to all that it leaves unless nothing was changed: the same where nobody has the number, and so the same
  -- where it is the same for the one who has it
  pub by-place-as : (done : Moved → Moved) → ((p : ℕ) (a : Answer) → place_for w.txns s ≡ p → p < most_live → done (unmoved w p a) ≡ unmoved w p a)
      → Names (asked s)
      → (standing w (wanted_of s) < most_live → wanted_of s ≢ 0 → (txn_at w (standing w (wanted_of s))).number ≡ wanted_of s
      → place_for w.txns s ≡ standing w (wanted_of s)
      → SameAt w (standing w (wanted_of s))
      (done (done_by w.tables (beside w (txn_at w (standing w (wanted_of s)))) s))
      (carried (view w) (asked s) (refusal (later-tests (view w) (asked s)))))
      → SameAs w s (done (moved_by w s))
  by-place-as done kept names h = go (ℕ_discrete (wanted_of s) 0) (dec_lt (standing w (wanted_of s)) most_live)
    where
      go : Dec (wanted_of s ≡ 0) → Dec (standing w (wanted_of s) < most_live) → SameAs w s (done (moved_by w s))
      go (no n) (yes l) =
          let q = standing w (wanted_of s) in
          let i : (txn_at w q).number ≡ wanted_of s = place-number (view w) (wanted_of s) l in
          same_from w s q _ _ (there w z s l)
          (ap done (moved-found q (there w z s l) l (rw (ne_eqb (wanted_of s) 0 n, eq-eqb (txn_at w q).number (wanted_of s) i))))
          (found-model (view w) (asked s) names (rw (ne_eqb (wanted_of s) 0 n, lt-ltb q most_live l)))
          (h l n i (there w z s l))
      go (no n) (no l) =
          let k : most_live ≤ standing w (wanted_of s) = omega (arith, l) in
          same_from w s 0 _ _ (nowhere w z s k)
          (ap done (moved_none 0 (nowhere w z s k) (omega arith)
          (rw (ne_eqb (wanted_of s) 0 n, ne_eqb (txn_at w 0).number (wanted_of s) (not_there w z (wanted_of s) k 0 (omega arith)))))
          ∙ kept 0 (tell.Refused (refusal_told NoSuch)) (nowhere w z s k) (omega arith))
          (none-model (view w) (asked s) names (rw (ne_eqb (wanted_of s) 0 n, le-ltb (standing w (wanted_of s)) most_live k)))
          (refused-same w z 0 NoSuch)
      go (yes n) d =
          let l = place_in w z s in
          same_from w s (place_for w.txns s) _ _ refl
          (ap done (moved_none (place_for w.txns s) refl l (rw (eq-eqb (wanted_of s) 0 n)))
          ∙ kept (place_for w.txns s) (tell.Refused (refusal_told NoSuch)) refl l)
          (none-model (view w) (asked s) names (rw (eq-eqb (wanted_of s) 0 n)))
          (refused-same w z (place_for w.txns s) NoSuch)

  pub by_place : Names (asked s) → (standing w (wanted_of s) < most_live → wanted_of s ≢ 0 → (txn_at w (standing w (wanted_of s))).number ≡ wanted_of s
      → SameAt w (standing w (wanted_of s)) (done_by w.tables (beside w (txn_at w (standing w (wanted_of s)))) s)
      (carried (view w) (asked s) (refusal (later-tests (view w) (asked s)))))
      → Same w s
  by_place names h = by-place-as (λ m. m) (λ p a q l. refl) names (λ l n i q. h l n i)
