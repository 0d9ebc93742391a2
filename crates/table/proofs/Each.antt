-- A field set or cleared at each entry that a list names, or at each below a count: how that goes on by one; and what is left of the first n of a list.
-- Assumes nothing.
use Prim.Native.Nat.{ℕ, ◌+◌, ◌<◌, ◌≤◌, min}
use mathlib.Core.Path.{◌≡◌, refl}
use mathlib.Core.List.{List, [], ◌∷◌}
use native.Mathlib.Numerals.{add-one}
use native.Mathlib.Omega.{arith}
use lib.ListN.{length, take, drop, get_or, length-take, drop_of_length-le}
use lib.Seq.{get_or-take, drop-cons}
use Rattle.table.specs.Words.{set_field, set_fields, clear_field, clear_fields, clear_every}

-- what is left of the first n of a list, from i on
module _ (l : List ℕ) (n i : ℕ) where
  pub left-next : i < n → i < length l → drop i (take n l) ≡ get_or l i 0 ∷ drop (i + 1) (take n l)
  left-next h k =
      let m : i < length (take n l) = rw length-take (omega arith) in
      rw (add-one, drop-cons (take n l) i 0, get_or-take n l i 0)

  pub left_end : min n (length l) ≤ i → drop i (take n l) ≡ []
  left_end h =
      let m : length (take n l) ≤ i = rw length-take h in
      drop_of_length-le (take n l) m

-- one entry more, and none left
module _ (w k v : ℕ) (xs : List ℕ) where
  pub set-next : (xs' l rest : List ℕ) (x : ℕ) → l ≡ x ∷ rest → xs' ≡ set_field w k xs x v → set_fields w k xs v l ≡ set_fields w k xs' v rest
  unfolding set_fields
  set-next xs' l rest x e d = rw (e, d)

  pub set-none : (l : List ℕ) → l ≡ [] → set_fields w k xs v l ≡ xs
  unfolding set_fields
  set-none l e = rw e

  pub clear_next : (xs' l rest : List ℕ) (x : ℕ) → l ≡ x ∷ rest → xs' ≡ clear_field w k xs x v → clear_fields w k xs v l ≡ clear_fields w k xs' v rest
  unfolding clear_fields
  clear_next xs' l rest x e d = rw (e, d)

  pub clear_none : (l : List ℕ) → l ≡ [] → clear_fields w k xs v l ≡ xs
  unfolding clear_fields
  clear_none l e = rw e

-- every entry below a count: none yet, and one more
module _ (w k v : ℕ) (xs : List ℕ) where
  pub every-none : xs ≡ clear_every w k xs 0 v
  unfolding clear_every
  every-none = refl

  pub every-next : (ys zs : List ℕ) (i : ℕ) → ys ≡ clear_every w k xs i v → zs ≡ clear_field w k ys i v → zs ≡ clear_every w k xs (i + 1) v
  unfolding clear_every
  every-next ys zs i e f = rw (add-one i, ← e) f
