-- The lists tell the postings as before, where postings and links stay.
-- Assumes nothing.
use Prim.Native.Nat.{ℕ, ◌≤◌, ◌<◌}
use mathlib.Core.Path.{◌≡◌, sym, ap, ◌∙◌}
use mathlib.Core.Bool.{true}
use mathlib.Core.List.{List}
use Rattle.table.specs.Words.{field}
use Rattle.table.specs.Fields.{row_words}
use Rattle.table.proofs.Parts.{part_field}
use Rattle.table_postings.specs.Links.{lists_tell}
use Rattle.table_postings.proofs.Told.{tells-told, told-tells, told-kept}
use Rattle.step.specs.Words.{Words}
use Rattle.step_bridge.proofs.Tabled.{part}

-- the lists of these rows tell their postings
abbrev pub Tells : Words → List ℕ → Type 0
Tells w rows = lists_tell rows w.sizes.rows ≡ true

-- one field of a row, where the field stays as far as the size goes
same-field : (k n : ℕ) (xs ys : List ℕ) → k < row_words → field row_words k (part row_words n ys) ≡ field row_words k (part row_words n xs)
    → (r : ℕ) → r < n → field row_words k ys r ≡ field row_words k xs r
same-field k n xs ys hk e r h =
    sym (part_field row_words k n ys r hk h) ∙ (ap (λ (f : ℕ → ℕ). f r) e ∙ part_field row_words k n xs r hk h)

-- rows that differ only in heads and claims
pub tells-kept : (xs ys : List ℕ) (n : ℕ)
    → ((k : ℕ) → 2 ≤ k → k < row_words → field row_words k (part row_words n ys) ≡ field row_words k (part row_words n xs))
    → lists_tell xs n ≡ true → lists_tell ys n ≡ true
tells-kept xs ys n same e = told-tells ys n (told-kept xs ys n (λ k r lo hi h. same-field k n xs ys hi (same k lo hi) r h) (tells-told xs n e))
