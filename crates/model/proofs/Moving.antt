-- Every step is a move, and an invariant of the moves is one of every sequence of steps. Assumes nothing.
use mathlib.Core.Path.{◌≡◌, refl}
use mathlib.Core.Bool.{true}
use mathlib.Core.Option.{Option, none, some}
use mathlib.Core.List.{List, [], ◌∷◌, ◌++◌}
use Prim.Native.Nat.{ℕ}
use native.Mathlib.Omega.{arith}
use lib.Dec.{eqb}
use borrow.Author.Tests.{eqb-true, eqb-false, ltb-true, not-false}
use Rattle.base_lists.proofs.TableLaws.{cond-elim}
use Rattle.base_lists.proofs.ListLaws.{or_l, or_r}
use Rattle.model.specs.Store.{Store}
use Rattle.model.specs.Seeing.{Live}
use Rattle.model.specs.Steps.{stale}
use Rattle.model.specs.Refusals.{Refusal, Step, capture, txn_of, refusal}
use Rattle.model.specs.Shape.{right_shape}
use Rattle.model.specs.Machine.{at, actor, is_stale, checks, after_refusal, carried, step_in, step, run}
use Rattle.model.proofs.Tests.{place-number}
use Rattle.model.proofs.Move.{Move, stay, did-mark, passes-to-stale, never-stale}
use Rattle.model.proofs.Ruled.{Marks, may-mark, never, moves, ruled}

-- a stale stamp is a capture's, whose transaction lives and is Open
capture-marks : (s : Store) (t k : ℕ) (r : Refusal) → refusal (checks s (capture t k)) ≡ some r → is_stale r ≡ true → Move s (at s t) (stale s (at s t))
unfolding checks
capture-marks s t k r e y =
    let a = passes-to-stale _ _ r _ refl y e in
    let b = passes-to-stale _ _ r _ refl y a.1 in
    let z = eqb-false t 0 (or_l (eqb t 0) _ a.0) in
    let n = place-number s t (ltb-true _ _ (not-false _ (or_r (eqb t 0) _ a.0))) in
    did-mark (at s t) (pos z n) (eqb-true _ _ (not-false _ b.0))
  where
    pos : (t ≡ 0 → ⊥) → (txn_of s t).number ≡ t → Live (txn_of s t)
    pos z n = omega arith

in-move : (s : Store) (a : Step) → Move s (at s (actor a)) (step_in s a).store
unfolding step_in carried after_refusal
in-move s a = go (refusal (checks s a)) refl
  where
    stales : (b : Step) → Marks s b → (r : Refusal) → refusal (checks s b) ≡ some r → is_stale r ≡ true → Move s (at s (actor b)) (stale s (at s (actor b)))
    stales b (may-mark t k) r e y = capture-marks s t k r e y
    stales b (never p q) r e y = absurd (never-stale (checks s b) r p e y)

    go : (o : Option Refusal) → refusal (checks s a) ≡ o → Move s (at s (actor a)) (carried s a o).store
    go none e = moves s a e
    go (some r) e =
        cond-elim (λ z. Move s (at s (actor a)) z) (is_stale r) _ _ (λ t. stales a (ruled s a).marks r e t) (λ t. stay (at s (actor a)))

pub step_move : (s : Store) (a : Step) → Move s (at s (actor a)) (step s a).store
unfolding step
step_move s a = cond-elim (λ z. Move s (at s (actor a)) z.store) (right_shape s) (step_in s a) _ (λ t. in-move s a) (λ t. stay (at s (actor a)))

-- an invariant of the moves is an invariant of every sequence of steps
pub run-inv : (P : Store → Type 0) → ((s s' : Store) (i : ℕ) → P s → Move s i s' → P s') → (s : Store) (more : List Step) → P s → P (run s more)
unfolding run
run-inv P keep s [] p = p
run-inv P keep s (a ∷ more) p = run-inv P keep (step s a).store more (keep s _ _ p (step_move s a))

pub run-append : (s : Store) (xs ys : List Step) → run s (xs ++ ys) ≡ run (run s xs) ys
unfolding run
run-append s [] ys = refl
run-append s (a ∷ xs) ys = run-append (step s a).store xs ys
