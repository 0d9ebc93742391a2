-- Runs of stores one behind the other, and front parts of lists.
-- Assumes nothing.
use Prim.Native.Nat.{ℕ, suc, ◌+◌, ◌<◌, ◌≤◌}
use mathlib.Core.Path.{◌≡◌, refl, ◌∙◌}
use mathlib.Core.Logic.{inr}
use mathlib.Core.List.{List, [], ◌∷◌, ◌++◌}
use native.Mathlib.Nat.{add-zero, zero-add}
use native.Mathlib.Numerals.{add-one}
use native.Mathlib.Omega.{arith}
use lib.ListN.{length, get_or, set, take, drop}
use lib.Seq.{sets, take-suc, take_at, sets-eq}
use Rattle.table.proofs.Spans.{sets-other}

pub sets-append : (xs : List ℕ) (at : ℕ) (vs us : List ℕ) → sets xs at (vs ++ us) ≡ sets (sets xs at vs) (at + length vs) us
sets-append xs at [] us = rw (add-zero at)
sets-append xs at (v ∷ vs) us = sets-append (set xs at v) (suc at) vs us ∙ rw e
  where
    e : suc at + length vs ≡ at + suc (length vs)
    e = omega arith

-- what a run from the front leaves there, and behind it
module _ (xs vs : List ℕ) (h : length vs ≤ length xs) where
  pub sets-all : sets xs 0 vs ≡ vs ++ drop (length vs) xs
  sets-all = simp zero-add at (sets-eq vs xs 0 (omega arith))

  pub sets-front : take (length vs) (sets xs 0 vs) ≡ vs
  sets-front = rw sets-all (take_at vs (drop (length vs) xs) (length vs) refl)

pub sets_behind : (xs vs : List ℕ) (i : ℕ) → length vs ≤ i → get_or (sets xs 0 vs) i 0 ≡ get_or xs i 0
sets_behind xs vs i h = sets-other xs 0 vs i (inr (omega arith))

-- one more of a front part
pub front-next : (xs : List ℕ) (i : ℕ) → i < length xs → take (i + 1) xs ≡ take i xs ++ (get_or xs i 0 ∷ [])
front-next xs i h = rw (add-one) (take-suc xs i 0 h)
