-- An accepted step: its tests refused nothing, the store had the right shape, and so it was reached from a store that could be opened. Assumes nothing.
use mathlib.Core.Path.{◌≡◌, refl, sym, ap, ◌∙◌}
use mathlib.Core.Bool.{Bool, true, false, cond, not, true≢false}
use mathlib.Core.Option.{Option, none, some}
use mathlib.Core.List.{List, [], ◌∷◌}
use Prim.Native.Nat.{ℕ, ◌+◌}
use native.Mathlib.Omega.{arith}
use lib.Dec.{eqb, leb}
use borrow.Author.Tests.{leb-true}
use Rattle.base_limits.specs.Limits.{last_number}
use Rattle.base_lists.proofs.ListLaws.{and_l, and_r}
use Rattle.model.specs.Store.{Sizes, Store, fresh}
use Rattle.model.specs.Refusals.{Step, Refusal, WrongShape, refusal_number, live_count, refusal}
use Rattle.model.specs.Shape.{good_sizes, right_shape}
use Rattle.model.specs.Machine.{Refused, gives, checks, accepted, carried, step, step_in, run}
use Rattle.model.proofs.Ruled.{refuses, ruled}
use Rattle.model.proofs.Move.{given_so}
use Rattle.model.proofs.Good.{Good, good-fresh, good-run, step-in}

pub record Accepted (s : Store) (a : Step) : Type 0 where
  pub shape : right_shape s ≡ true
  pub tests : refusal (checks s a) ≡ none
  pub does : step s a ≡ accepted s a

pub is-accepted : (s : Store) (a : Step) → refuses (step s a).answer ≡ false → Accepted s a
unfolding step step_in carried
is-accepted s a = go (right_shape s) refl (refusal (checks s a)) refl
  where
    go : (b : Bool) → right_shape s ≡ b → (o : Option Refusal) → refusal (checks s a) ≡ o
        → refuses (cond b (carried s a o) (gives s (Refused WrongShape))).answer ≡ false → Accepted s a
    go true p none q = λ e. record { shape = p; tests = q; does = rw (p, q) }
    go true p (some r) q = λ e. absurd (true≢false e)
    go false p o q = λ e. absurd (true≢false e)

-- a store of wrong shape stays as it is
shut-run : (s : Store) (more : List Step) → right_shape s ≡ false → run s more ≡ s
unfolding run step
shut-run s [] e = refl
shut-run s (a ∷ more) e = rw e (shut-run s more e)

open-shape : (z : Sizes) (clock : ℕ) → right_shape (fresh z clock) ≡ true → Good (fresh z clock)
unfolding right_shape
open-shape z clock e =
    let a : good_sizes z ≡ true = search (and_l, and_r) depth 8 in
    let b : leb 1 clock ≡ true = search (and_l, and_r) depth 8 in
    let c : leb (clock + live_count (fresh z clock).txns) last_number ≡ true = search (and_l, and_r) depth 8 in
    good-fresh z clock a (leb-true 1 clock b) (omega (arith, leb-true (clock + live_count (fresh z clock).txns) last_number c))

pub reached : (z : Sizes) (clock : ℕ) (before : List Step) (a : Step) → refuses (step (run (fresh z clock) before) a).answer ≡ false
    → Good (run (fresh z clock) before)
reached z clock before a e = go (right_shape (fresh z clock)) refl
  where
    go : (b : Bool) → right_shape (fresh z clock) ≡ b → Good (run (fresh z clock) before)
    go true t = good-run (fresh z clock) (open-shape z clock t) before
    go false t = absurd (true≢false (sym (is-accepted (run (fresh z clock) before) a e).shape ∙ (rw (shut-run (fresh z clock) before t) t)))

-- a step at a good store is not refused with 16
pub never-misshapen : (s : Store) → Good s → (a : Step) → (step s a).answer ≡ Refused WrongShape → ⊥
unfolding step_in carried
never-misshapen s g a e = go (refusal (checks s a)) refl (ap (λ w. w.answer) (sym (step-in s g a)) ∙ e)
  where
    go : (o : Option Refusal) → refusal (checks s a) ≡ o → (carried s a o).answer ≡ Refused WrongShape → ⊥
    go none q f = true≢false (sym (ap refuses f) ∙ (ruled s a).answered)
    go (some r) q f = let p : r ≡ WrongShape =
        cc in true≢false (sym (given_so (λ d. not (eqb (refusal_number d) 16)) (checks s a) r (ruled s a).no-16 q) ∙ (rw p))
