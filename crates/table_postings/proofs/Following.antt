-- How the links of a list are followed: the row that a link names, and where a list ends.
-- Assumes nothing.
use Prim.Native.Nat.{ℕ, zero, suc, ◌+◌, ◌-◌, ◌≤◌, ◌<◌}
use mathlib.Core.Path.{◌≡◌, refl}
use mathlib.Core.List.{List, [], ◌∷◌}
use native.Mathlib.Decide.{ℕ_discrete}
use native.Mathlib.Omega.{arith}
use borrow.Author.Tests.{eq-eqb, ne_eqb}
use Rattle.table.specs.Fields.{later_of}
use Rattle.table_postings.specs.Postings.{follow}

module _ (rows : List ℕ) where
  -- a link that names no row from k on
  pub follow-back : (link k n : ℕ) → link ≤ k → follow rows link k n ≡ []
  unfolding follow
  follow-back link k zero h = refl
  follow-back link k (suc n) h = rw (ne_eqb link (suc k) (λ e. omega arith)) (follow-back link (suc k) n (omega arith))

  -- a link that names none of the n rows, but one past them
  pub follow-past : (link k n : ℕ) → k + n < link → follow rows link k n ≡ []
  unfolding follow
  follow-past link k zero h = refl
  follow-past link k (suc n) h = rw (ne_eqb link (suc k) (λ e. omega arith)) (follow-past link (suc k) n (omega arith))

  -- the row that the link names comes first, and then what its own link leads to
  pub follow-next : (link k n : ℕ) → k < link → link ≤ k + n
      → follow rows link k n ≡ (link - 1) ∷ follow rows (later_of rows (link - 1)) link (k + n - link)
  unfolding follow
  follow-next link k zero h u = absurd (omega arith)
  follow-next link k (suc n) h u = elim (ℕ_discrete link (suc k)) [
    | yes e ↦
        let row : suc k - 1 ≡ k = omega arith in
        let rest : k + suc n - suc k ≡ n = omega arith in
        rw (e, eq-eqb (suc k) (suc k) refl, row, rest)
    | no d ↦
        let rest : suc k + n - link ≡ k + suc n - link = omega arith in
        rw (ne_eqb link (suc k) d, ← rest) (follow-next link (suc k) n (omega (arith, d)) (omega arith))
  ]
