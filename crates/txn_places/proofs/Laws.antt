-- How the eight places are gone through, one after another, and what is read at a place.
-- Assumes nothing.
use Prim.Native.Nat.{ℕ, zero, suc, ◌+◌, ◌<◌, ◌≤◌}
use mathlib.Core.Path.{◌≡◌, refl, sym, ◌∙◌}
use mathlib.Core.Bool.{Bool, true, false, cond, not}
use native.Mathlib.Omega.{arith}
use mathlib.Core.List.{List, [], ◌∷◌}
use native.Mathlib.Nat.{add-zero}
use native.Mathlib.Numerals.{add-one}
use lib.Dec.{eqb}
use lib.ListN.{length, drop, get_or, drop_of_length-le}
use lib.Seq.{drop-cons}
use Rattle.std.specs.Prelude.{count_by}
use Rattle.std.proofs.lemmas.List.Sums.{sum_by-cons}
use Rattle.txn_places.specs.Places.{place_from, live_from}

module _ (l : List ℕ) (i : ℕ) where
  pub place-before : (n j : ℕ) → j + 1 ≡ i → i ≤ length l → place_from j (drop j l) n ≡ cond (eqb (get_or l j 0) n) j (place_from i (drop i l) n)
  unfolding place_from
  place-before n j e h = let k : j < length l = omega arith in rw (← e, add-one, drop-cons l j 0)

  pub place_end : (n : ℕ) → length l ≤ i → place_from i (drop i l) n ≡ 0
  unfolding place_from
  place_end n h = rw (drop_of_length-le l h)

-- the numbers that are not 0 are counted
pub live_counted : (l : List ℕ) (n : ℕ) → live_from n l ≡ n + count_by (λ x. not (eqb x 0)) l
unfolding live_from
live_counted [] n = sym (add-zero n)
live_counted (x ∷ l) n =
    rw (sum_by-cons (λ y. cond (not (eqb y 0)) 1 0) x l) (by (eqb x 0) (live_counted l n) (live_counted l (n + 1)))
  where
    by : (b : Bool) → live_from n l ≡ n + count_by (λ x. not (eqb x 0)) l → live_from (n + 1) l ≡ n + 1 + count_by (λ x. not (eqb x 0)) l
        → live_from (cond b n (n + 1)) l ≡ n + (cond (not b) 1 0 + count_by (λ x. not (eqb x 0)) l)
    by true same more = same ∙ omega arith
    by false same more = more ∙ omega arith

-- a place is found among those there are
pub place-below : (k : ℕ) (l : List ℕ) (n m : ℕ) → 0 < m → k + length l ≤ m → place_from k l n < m
unfolding place_from
place-below k [] n m pos h = pos
place-below k (x ∷ l) n m pos h = by (eqb x n) (place-below (suc k) l n m pos (omega (arith, h)))
  where
    by : (b : Bool) → place_from (suc k) l n < m → cond b k (place_from (suc k) l n) < m
    by true further = omega (arith, h)
    by false further = further

-- below the length the default does not matter
pub default-any : {A : Type 0} (l : List A) (i : ℕ) (d e : A) → i < length l → get_or l i d ≡ get_or l i e
default-any [] i d e h = absurd (omega arith)
default-any (x ∷ l) zero d e h = refl
default-any (x ∷ l) (suc i) d e h = default-any l i d e (omega arith)
