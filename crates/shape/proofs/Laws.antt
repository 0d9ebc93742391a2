-- The record at a place, what is made of each, and a number unlike those before it.
-- Assumes nothing.
use Prim.Native.Nat.{ℕ, zero, suc, ◌+◌, ◌<◌, ◌≤◌}
use mathlib.Core.Path.{◌≡◌, refl, sym, ◌∙◌}
use mathlib.Core.Bool.{Bool, true, false, not, ◌&&◌, ◌||◌}
use mathlib.Core.List.{List, [], ◌∷◌, map}
use native.Mathlib.Nat.{add-zero}
use native.Mathlib.Omega.{arith}
use lib.Dec.{eqb}
use lib.ListN.{length, take, get_or, length-map, get_or-map}
use lib.Seq.{take-suc, ext_get_or}
use borrow.Author.Tests.{eq-eqb, eqb-true}
use denote.Param.Members.{Mut}
use Rattle.std.specs.Array.{IsMapOf}
use Rattle.std.specs.Fn.{Called}
use Rattle.std.specs.List.{list_any, list_all, enumerate_from}
use Rattle.std.proofs.lemmas.List.Folds.{list_any-append}
use Rattle.base_lists.specs.Lists.{every}
use Rattle.base_lists.proofs.ListLaws.{same_test}
use Rattle.shape_chains.proofs.Laws.{every-first}
use Rattle.txn.specs.Methods.{idle_of}
use Rattle.txn.specs.declared.Transaction.{Transaction}
use Rattle.txn_places.proofs.Laws.{default-any}

-- the record read at a place, whatever stands past the eighth
pub place-any : (ts : List Transaction) (i : ℕ) (d : Transaction) → i < length ts → get_or ts i d ≡ get_or ts i (idle_of i)
place-any ts i d h = default-any ts i d (idle_of i) h

-- a test of each record with its place is one of the places
pub every-placed : (test : ℕ → Transaction → Bool) (k : ℕ) (ts : List Transaction) (also : ℕ → Bool)
    → ((i : ℕ) → i < length ts → also i ≡ test (k + i) (get_or ts i (idle_of i)))
    → list_all (λ p. test p.0 p.1) (enumerate_from k ts) ≡ every (length ts) also
unfolding every
every-placed test k [] also h = refl
every-placed test k (t ∷ ts) also h =
    let first : also 0 ≡ test k t = rw add-zero at (h 0 (omega arith)) in
    let rest = every-placed test (k + 1) ts (λ i. also (suc i))
    (λ i l. let e : k + 1 + i ≡ k + suc i = omega arith in rw (e, ← place-any ts i (idle_of (suc i)) l) (h (suc i) (omega (arith, l)))) in
    rw (rest, ← first) (sym (every-first also (length ts)))

-- and so is a test of each record alone
pub every-record : (test : Transaction → Bool) (ts : List Transaction) (also : ℕ → Bool)
    → ((i : ℕ) → i < length ts → also i ≡ test (get_or ts i (idle_of i))) → list_all test ts ≡ every (length ts) also
unfolding every
every-record test [] also h = refl
every-record test (t ∷ ts) also h =
    let rest = every-record test ts (λ i. also (suc i)) (λ i l. rw (← place-any ts i (idle_of (suc i)) l) (h (suc i) (omega (arith, l)))) in
    rw (rest, ← h 0 (omega arith)) (sym (every-first also (length ts)))

-- what `map` makes of each record
pub mapped : {F : Type 0} {g : Mut F (Transaction × Unit {0}) ℕ} {f : F} (h : Transaction → ℕ) (ts : List Transaction) (ys : List ℕ) → length ts ≡ 8
    → IsMapOf g f ts ys 8 → ((p q : F) (t : Transaction) (y : ℕ) → Called g p (t, tt) y q → y ≡ h t) → ys ≡ map h ts
mapped h ts ys n made told =
    ext_get_or 0 ys (map h ts) (made.long ∙ sym (rw length-map n))
    (λ i l.
    let k : i < 8 = omega (arith, made.long) in
    let within : i < length ts = omega arith in
    let also : i < length (map h ts) = rw length-map within in
    let w = made.at i (idle_of i) 0 k in
    told w.0 w.1 _ _ w.2 ∙ sym (default-any (map h ts) i 0 (h (idle_of i)) also ∙ get_or-map h ts i (idle_of i)))

-- a number is among the first of a list, or unlike each of them
pub unlike-any : (xs : List ℕ) (x i : ℕ) → i ≤ length xs → not (list_any (λ y. eqb y x) (take i xs)) ≡ every i (λ j. not (eqb x (get_or xs j 0)))
unfolding every
unlike-any xs x zero h = refl
unlike-any xs x (suc i) h =
    let y = get_or xs i 0 in
    let k : i < length xs = omega arith in
    rw (take-suc xs i 0 k, list_any-append (λ (z : ℕ). eqb z x) (take i xs) (y ∷ []))
    (by (list_any (λ (z : ℕ). eqb z x) (take i xs)) (eqb y x) (eqb x y) _ (other y) (unlike-any xs x i (omega arith)))
  where
    other : (y : ℕ) → eqb y x ≡ eqb x y
    other y = same_test _ _ (λ e. eq-eqb x y (sym (eqb-true y x e))) (λ e. eq-eqb y x (sym (eqb-true x y e)))

    by : (a b d r : Bool) → b ≡ d → not a ≡ r → not (a || (b || false)) ≡ r && not d
    by true b d r e f = rw (← f)
    by false true d r e f = rw (← f, ← e)
    by false false d r e f = rw (← f, ← e)
