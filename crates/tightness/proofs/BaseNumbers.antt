-- Wrong bodies of the crate `base_numbers`.
-- Assumes nothing.
use Prim.Native.Nat.{ℕ, ◌+◌, ◌-◌, min}
use mathlib.Core.Path.{refl}
use mathlib.Core.Bool.{Bool, cond, ◌&&◌}
use lib.Dec.{ltb, leb}
use Rattle.base_limits.specs.Limits.{last_number}
use Rattle.base_numbers.specs.Numbers.{one_more}
use Rattle.tightness.specs.Wrong.{Excludes}
use Rattle.tightness.proofs.Apart.{apart, itself, bit}
use Rattle.tightness.proofs.Computes.{computes}

-- what the contract of the library's `min` asks for, which `u32`, `u64` and `usize` have alike: each theorem below is of all three
abbrev lesser : ℕ × ℕ → ℕ
lesser (a, b) = min a b

-- the greater of the two
pub lesser-greater : Excludes lesser (λ (a, b). cond (ltb a b) b a)
lesser-greater = apart (0, 1) itself refl

-- always the first
pub lesser-first : Excludes lesser (λ (a, b). a)
lesser-first = apart (1, 0) itself refl

-- always the second
pub lesser-second : Excludes lesser (λ (a, b). b)
lesser-second = apart (0, 1) itself refl

-- `one-more`: the very last number is never reached
pub one-more-stops-early : Excludes (λ x. one_more x) (λ x. cond (ltb (x + 1) last_number) (x + 1) x)
unfolding computes
one-more-stops-early = apart (last_number - 1) itself refl

-- `one-more`: the same number
pub one-more-stays : Excludes (λ x. one_more x) (λ x. x)
unfolding computes
one-more-stays = apart 0 itself refl

-- what the contract of `within` asks for
abbrev within : ℕ × ℕ → Bool
within (n, most) = leb 1 n && leb n most

-- `within`: 0 is let in
pub within-zero : Excludes within (λ (n, most). leb n most)
within-zero = apart (0, 1) bit refl

-- `within`: the most itself is kept out
pub within-below-most : Excludes within (λ (n, most). leb 1 n && ltb n most)
within-below-most = apart (1, 1) bit refl

-- what the contract of `sum_within` asks for
abbrev sum_within : ℕ × ℕ × ℕ → Bool
sum_within (a, b, limit) = leb (a + b) limit

-- `sum_within`: the limit itself is kept out
pub sum-within-below-limit : Excludes sum_within (λ (a, b, limit). ltb (a + b) limit)
sum-within-below-limit = apart (1, 1, 2) bit refl

-- `sum_within`: each of the two by itself
pub sum-within-each : Excludes sum_within (λ (a, b, limit). leb a limit && leb b limit)
sum-within-each = apart (1, 1, 1) bit refl
