-- The list that a key is in is one of the store's.
-- Assumes nothing.
use Prim.Native.Nat.{ℕ, ◌*◌, ◌≤◌, ◌<◌, min}
use native.Mathlib.Nat.{mod-lt, mul_comm, mul-le-mul_left}
use native.Mathlib.Omega.{arith}
use Rattle.base_limits.specs.Limits.{most_rows}
use Rattle.table_postings.specs.Postings.{half, spread, list_for}

-- a spread key is below a half
pub spread-low : (k : ℕ) → spread k < half
spread-low k = mod-lt _ (omega arith)

-- a spread key times a number of lists is below that number of halves
pub times-low : (k m : ℕ) → spread k * m ≤ 4294967295 * m
times-low k m =
    let low = mul-le-mul_left {m = spread k} {n = 4294967295} m (omega (arith, spread-low k)) in
    rw (mul_comm (spread k) m) (omega (arith, low))

pub list-low : (n k : ℕ) → 1 ≤ n → list_for n k < n
unfolding list_for
list-low n k some = omega (arith, times-low k (min n most_rows))
