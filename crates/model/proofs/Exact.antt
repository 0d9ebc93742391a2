-- The table of numbers as one statement: a step gives n exactly where the lines of its table say n. Assumes nothing.
use mathlib.Core.Path.{◌≡◌, refl, sym, ap, ◌∙◌}
use mathlib.Core.Bool.{Bool, true, false, cond, true≢false}
use mathlib.Core.Logic.{◌↔◌, inl, inr, ⊎_elim}
use mathlib.Core.Option.{Option, none, some}
use Prim.Native.Nat.{ℕ}
use native.Mathlib.Omega.{arith}
use Rattle.model.specs.Store.{Sizes, Store}
use Rattle.model.specs.Refusals.{Refusal, Stale, WrongShape, Step, refusal}
use Rattle.model.specs.Shape.{right_shape}
use Rattle.model.specs.Machine.{checks, Refused, gives, carried, step, step_in, can_open}
use Rattle.model.specs.Given.{number, open_number, GivenWhen, Given, GivenOpen, StaleStamp}
use Rattle.model.proofs.Move.{never-stale, unmarking}
use Rattle.model.proofs.Ruled.{refuses, ruled, Marks, may-mark, never, exactly}
use Rattle.model.proofs.Conditions.{number_is, cannot-open}
use Rattle.model.proofs.Outcomes.{capture-stale}

-- each step gives n exactly where its table does
pub given-exactly : (s : Store) (a : Step) (n : ℕ) → number s a ≡ n ↔ Given s a n
given-exactly s a n = rw (number_is s a) (exactly s a n)

-- and so does open, which has one line
one_line : {Case : Type 0} {n : ℕ} (b : Bool) → (b ≡ false → Case) → (Case → b ≡ false) → cond b 0 1 ≡ n ↔ GivenWhen 1 Case n (n ≡ 0)
one_line true why shut = (λ e. inr ((λ c. true≢false (shut c)), sym e), λ w. ⊎_elim (λ y. absurd (true≢false (shut y.0))) (λ o. sym o.1) w)
one_line false why shut = (λ e. inl (why refl, sym e), λ w. ⊎_elim (λ y. sym y.1) (λ o. absurd (o.0 (why refl))) w)

pub open-exactly : (z : Sizes) (clock n : ℕ) → open_number z clock ≡ n ↔ GivenOpen z clock n
open-exactly z clock n = one_line (can_open z clock) (cannot-open z clock).0 (cannot-open z clock).1

-- a refusal that marks is a capture's that finds a stale stamp: no other step has one among its tests
never-marks : (s : Store) (a : Step) → unmarking (checks s a) ≡ true → (step s a).answer ≡ Refused Stale → ⊥
unfolding step step_in carried
never-marks s a p = go (right_shape s) (refusal (checks s a)) refl
  where
    go : (b : Bool) (o : Option Refusal) → refusal (checks s a) ≡ o → (cond b (carried s a o) (gives s (Refused WrongShape))).answer ≡ Refused Stale → ⊥
    go true none e f = true≢false (sym (ap refuses f) ∙ (ruled s a).answered)
    go true (some r) e f = let q : r ≡ Stale = cc in never-stale (checks s a) r p e (rw q)
    go false o e f = let z : ◌≡◌ {A = ℕ} 0 1 = cc in omega arith

pub only-stale-marks : (s : Store) (a : Step) → (step s a).answer ≡ Refused Stale ↔ StaleStamp s a
only-stale-marks s a = by a (ruled s a).marks
  where
    by : (b : Step) → Marks s b → (step s b).answer ≡ Refused Stale ↔ StaleStamp s b
    by b (may-mark t k) = capture-stale s t k
    by b (never p q) = (λ e. absurd (never-marks s b p e), λ w. absurd (q w))
