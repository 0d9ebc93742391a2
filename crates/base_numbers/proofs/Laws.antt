-- One more below the last number; what is not within a limit; the lesser of two by a test.
-- Assumes nothing.
use Prim.Native.Nat.{ℕ, suc, ◌<◌, min}
use mathlib.Core.Path.{◌≡◌, refl, sym}
use mathlib.Core.Bool.{Bool, true, false, cond, not}
use native.Mathlib.Numerals.{add-one}
use native.Mathlib.Omega.{arith}
use lib.Dec.{leb, ltb}
use borrow.Author.Tests.{leb-true, leb-false, lt-ltb, le-ltb, ltb-true, ltb-false}
use Rattle.base_limits.specs.Limits.{last_number}
use Rattle.base_numbers.specs.Numbers.{one_more}

pub one_up : (n : ℕ) → n < last_number → one_more n ≡ suc n
unfolding one_more
one_up n h = rw (lt-ltb n last_number h, add-one n)

-- not within a limit is above it
pub above : (n limit : ℕ) → not (leb n limit) ≡ ltb limit n
above n limit = by (leb n limit) refl
  where
    by : (t : Bool) → leb n limit ≡ t → not t ≡ ltb limit n
    by true e = sym (le-ltb limit n (leb-true n limit e))
    by false e = sym (lt-ltb limit n (leb-false n limit e))

pub lesser-by : (a b : ℕ) → cond (ltb a b) a b ≡ min a b
lesser-by a b = by (ltb a b) refl
  where
    by : (t : Bool) → ltb a b ≡ t → cond t a b ≡ min a b
    by true e = omega (arith, ltb-true a b e)
    by false e = omega (arith, ltb-false a b e)
