-- Tables as functions from a number to its entry: one entry changes, or all of a list. Assumes nothing.
use Rattle.std.specs.Prelude.{cond, List, ℕ, eqb}
use Rattle.base_lists.specs.Lists.{member}

module _ {A : Type 0} where
  -- entry i is v, every other is as it was
  unfoldable pub update : (ℕ → A) → ℕ → A → ℕ → A
  update f i v j = cond (eqb j i) v (f j)

  -- every entry that the list names is v, every other is as it was
  unfoldable pub update_all : (ℕ → A) → List ℕ → A → ℕ → A
  update_all f is v j = cond (member j is) v (f j)
