-- The number of some bytes: of two parts one after the other, and of one byte more at a place.
-- Assumes nothing.
use Prim.Native.Nat.{ℕ, suc, ◌+◌, ◌-◌, ◌*◌, ◌^◌, ◌≤◌, ◌<◌}
use mathlib.Core.Path.{◌≡◌}
use mathlib.Core.List.{List, [], ◌∷◌, ◌++◌}
use native.Mathlib.Nat.{pow-succ'}
use native.Mathlib.Omega.{arith}
use lib.ListN.{length, take, drop, get_or}
use lib.Seq.{drop-cons}
use Rattle.model.specs.Log.{number}

pub number_append : (xs ys : List ℕ) → number (xs ++ ys) ≡ number xs + 256 ^ length xs * number ys
unfolding number
number_append [] ys = omega arith
number_append (x ∷ xs) ys =
    let e : 256 ^ length (x ∷ xs) ≡ 256 * 256 ^ length xs = pow-succ' 256 (length xs) in
    rw (number_append xs ys, e) (omega arith)

-- the byte before i, and those from i on
pub number-turn : (l : List ℕ) (at w i : ℕ) → 0 < i → i ≤ w → at + w ≤ length l
    → number (take (w - (i - 1)) (drop (at + (i - 1)) l)) ≡ 256 * number (take (w - i) (drop (at + i) l)) + get_or l (at + (i - 1)) 0
unfolding number
number-turn l at w i p h inside =
    let j : w - (i - 1) ≡ suc (w - i) = omega arith in
    let k : at + i ≡ suc (at + (i - 1)) = omega arith in
    let m : at + (i - 1) < length l = omega arith in
    rw (j, k, drop-cons l (at + (i - 1)) 0 m) (omega arith)

-- a byte more
pub power-turn : (w i : ℕ) → 0 < i → i ≤ w → 256 ^ (w - (i - 1)) ≡ 256 * 256 ^ (w - i)
power-turn w i p h = let j : w - (i - 1) ≡ suc (w - i) = omega arith in rw (j, pow-succ' 256 (w - i))
