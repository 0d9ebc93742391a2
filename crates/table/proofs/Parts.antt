-- The front part of a table, its first n entries: what it reads, and what a store does to it. One set of laws over the words of an entry, w, and the field, k.
-- Assumes nothing.
use Prim.Native.Nat.{ℕ, ◌+◌, ◌*◌, ◌≤◌, ◌<◌}
use mathlib.Core.Path.{◌≡◌}
use mathlib.Core.List.{List}
use native.Mathlib.Nat.{mul-le-mul_left}
use native.Mathlib.Omega.{arith}
use lib.ListN.{take, length-take, get_or-eq_default}
use lib.Seq.{get_or-take, take-set-lt, take-set-le}
use Rattle.table.specs.Words.{field, set_field}
use Rattle.table.proofs.Laws.{below}

-- past the part nothing stands in it
past-part : (w k n i : ℕ) → n ≤ i → w * n ≤ w * i + k
past-part w k n i h = omega (arith, mul-le-mul_left {m = n} {n = i} w h)

module _ (w k n : ℕ) (xs : List ℕ) (i : ℕ) where
  pub part_field : k < w → i < n → field w k (take (w * n) xs) i ≡ field w k xs i
  unfolding field
  part_field hk h = get_or-take (w * n) xs (w * i + k) 0 (below w i n k hk h)

  pub part-past : n ≤ i → field w k (take (w * n) xs) i ≡ 0
  unfolding field
  part-past h = get_or-eq_default (take (w * n) xs) 0 {n = w * i + k} (rw length-take (omega (arith, past-part w k n i h)))

  pub part-set : (v : ℕ) → k < w → i < n → take (w * n) (set_field w k xs i v) ≡ set_field w k (take (w * n) xs) i v
  unfolding set_field
  part-set v hk h = take-set-lt (w * n) xs (w * i + k) v (below w i n k hk h)

  pub part-kept : (v : ℕ) → n ≤ i → take (w * n) (set_field w k xs i v) ≡ take (w * n) xs
  unfolding set_field
  part-kept v h = take-set-le (w * n) xs (w * i + k) v (past-part w k n i h)
