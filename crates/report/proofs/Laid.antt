-- A text laid after a text is the two laid at once; a store is a text of one.
-- Assumes nothing.
use Prim.Native.Nat.{ℕ, ◌+◌, ◌<◌, ◌≤◌}
use mathlib.Core.Path.{◌≡◌, refl, sym, ◌∙◌}
use mathlib.Core.List.{List, [], ◌∷◌, ◌++◌, append_assoc, append-nil}
use native.Mathlib.Numerals.{add-one}
use native.Mathlib.Nat.{add_assoc, add-zero}
use native.Mathlib.Omega.{arith}
use lib.ListN.{length, take, drop, get_or, set, length-append, length-drop, take-append-drop}
use lib.Seq.{take_at, drop-append-add, drop-drop, set_split, set_at, take-suc, length-take-le}
use Rattle.report.specs.Written.{laid}

module _ (old : List ℕ) (at : ℕ) (s : List ℕ) (fits : at + length s ≤ length old) where
  front_long : length (take at old ++ s) ≡ at + length s
  front_long = rw (length-append, length-take-le at old (omega arith))

  pub laid-long : length (laid old at s) ≡ length old
  laid-long = rw (length-append, front_long, length-drop) (omega arith)

  laid_then : (t : List ℕ) → laid (laid old at s) (at + length s) t ≡ laid old at (s ++ t)
  laid_then t =
      rw (
        take_at (take at old ++ s) (drop (at + length s) old) (at + length s) front_long,
        ← front_long,
        drop-append-add (take at old ++ s) (drop (length (take at old ++ s)) old) (length t),
        drop-drop,
        front_long,
        length-append s t,
        ← add_assoc,
      ) (simp append_assoc)

pub laid_none : (old : List ℕ) (at : ℕ) → old ≡ laid old at []
laid_none old at = simp (append-nil, add-zero) (sym (take-append-drop at old))

pub set-laid : (l : List ℕ) (i v : ℕ) → i < length l → set l i v ≡ laid l i (v ∷ [])
set-laid l i v h = rw (set_split l i v, add-one) (simp append_assoc)

-- l is old with s laid at `at`: what comes right after it, a store or a text, makes it longer
module _ (old : List ℕ) (at : ℕ) (s l : List ℕ) (p : ℕ) (el : l ≡ laid old at s) (ep : p ≡ at + length s) where
  pub then-text : (t new : List ℕ) → at + length s ≤ length old → new ≡ laid l p t → new ≡ laid old at (s ++ t)
  then-text t new h e = e ∙ rw (el, ep) (laid_then old at s h t)

  pub then-store : (v : ℕ) → at + length s < length old → set l p v ≡ laid old at (s ++ (v ∷ []))
  then-store v h =
      let fits : at + length s ≤ length old = omega arith in
      rw (el, ep) (set-laid (laid old at s) (at + length s) v (rw (laid-long old at s fits) h) ∙ laid_then old at s fits (v ∷ []))

-- two stores side by side are a text of two
pub sets-laid : (l : List ℕ) (i v w : ℕ) → i + 1 < length l → set (set l i v) (i + 1) w ≡ laid l i (v ∷ w ∷ [])
sets-laid l i v w h = then-store l i (v ∷ []) (set l i v) (i + 1) (set-laid l i v (omega arith)) refl w h

-- a byte stored right before a text makes it longer
pub store-before : (old l s : List ℕ) (p v : ℕ) → p < length old → l ≡ laid old (p + 1) s → set l p v ≡ laid old p (v ∷ s)
store-before old l s p v h e =
    let rest = drop (p + 1 + length s) old in
    let places : p + 1 + length s ≡ p + length (v ∷ s) = omega arith in
    let opened : laid old (p + 1) s ≡ take p old ++ get_or old p 0 ∷ (s ++ rest) = rw (add-one, take-suc old p 0 h) (simp append_assoc) in
    rw (e, opened, set_at (take p old) (get_or old p 0) (s ++ rest) v p (length-take-le p old (omega arith)), ← places) (simp append_assoc)
