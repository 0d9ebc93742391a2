-- Lists in regions: what a store of an entry does to each, once for every start and every width.
-- Assumes nothing.
use Prim.Native.Nat.{ℕ, zero, suc, ◌+◌, ◌*◌, ◌≤◌, ◌<◌}
use mathlib.Core.Path.{◌≡◌, refl, ◌∙◌}
use mathlib.Core.Logic.{◌⊎◌, inl, inr, ⊎_elim}
use mathlib.Core.List.{List, [], ◌∷◌, ◌++◌, map, append_assoc, map-append}
use native.Mathlib.Nat.{mul-suc}
use native.Mathlib.Numerals.{add-one}
use native.Mathlib.Decide.{ℕ_discrete}
use native.Mathlib.Omega.{arith}
use lib.ListN.{length, get_or, set, take, drop, length-take, length-drop, length-append, get_or-append}
use lib.Seq.{sets, length-sets, sets-eq, get_or-set_other, get_or-take, get_or-drop, ext_get_or, get_or_at, take_at, drop_at, length-take-le, drop-cons}
use Rattle.table.specs.Regions.{words, list_of}

-- the words at `at` are clear of the n words at b
abbrev pub Clear : ℕ → ℕ → ℕ → ℕ → Type 0
Clear b n at m = (b + n ≤ at) ⊎ (at + m ≤ b)

-- a run of stores leaves every other word
pub sets-other : (xs : List ℕ) (at : ℕ) (vs : List ℕ) (j : ℕ) → (j < at) ⊎ (at + length vs ≤ j) → get_or (sets xs at vs) j 0 ≡ get_or xs j 0
sets-other xs at [] j h = refl
sets-other xs at (v ∷ vs) j (inl h) = sets-other (set xs at v) (suc at) vs j (inl (omega arith)) ∙ get_or-set_other xs at j v 0 (omega arith)
sets-other xs at (v ∷ vs) j (inr h) = sets-other (set xs at v) (suc at) vs j (inr (omega arith)) ∙ get_or-set_other xs at j v 0 (omega arith)

-- word k of the words at a
pub words-at : (w a : ℕ) (xs : List ℕ) (k : ℕ) → k < w → get_or (words w a xs) k 0 ≡ get_or xs (a + k) 0
unfolding words
words-at w a xs k h = rw (get_or-take, get_or-drop)

pub words-kept : (w a : ℕ) (xs : List ℕ) (at : ℕ) (vs : List ℕ) → Clear a w at (length vs) → words w a (sets xs at vs) ≡ words w a xs
unfolding words
words-kept w a xs at vs h =
    ext_get_or 0 _ _ (simp (length-take, length-drop, length-sets) refl)
    (λ i l. let k : i < w = omega (arith, length-take w (drop a (sets xs at vs))) in
    rw (get_or-take, get_or-drop, get_or-take, get_or-drop) (sets-other xs at vs (a + i) (⊎_elim (λ p. inl (omega arith)) (λ p. inr (omega arith)) h)))

pub words-stored : (w a : ℕ) (xs vs : List ℕ) → length vs ≡ w → a + w ≤ length xs → words w a (sets xs a vs) ≡ vs
unfolding words
words-stored w a xs vs e h =
    rw (
      sets-eq vs xs a (omega arith),
      append_assoc,
      drop_at (take a xs) (vs ++ drop (a + length vs) xs) a (length-take-le a xs (omega arith)),
      take_at vs (drop (a + length vs) xs) w e,
    )

module _ {A : Type 0} (f : List ℕ → A) (w b : ℕ) (xs : List ℕ) where
  pub list-next : (n : ℕ) → list_of f w b xs (n + 1) ≡ list_of f w b xs n ++ (f (words w (b + w * n) xs) ∷ [])
  unfolding list_of
  list-next n = rw add-one

  pub list_length : (n : ℕ) → length (list_of f w b xs n) ≡ n
  unfolding list_of
  list_length zero = refl
  list_length (suc n) = rw (length-append, list_length n) (omega arith)

  pub list-at : (n i : ℕ) (d : A) → i < n → get_or (list_of f w b xs n) i d ≡ f (words w (b + w * i) xs)
  unfolding list_of
  list-at zero i d h = absurd (omega arith)
  list-at (suc n) i d h = elim (ℕ_discrete i n) [
    | yes e ↦ rw e (get_or_at (list_of f w b xs n) _ [] d n (list_length n))
    | no m ↦ let l : i < n = omega arith in get_or-append (list_of f w b xs n) _ d i (omega (arith, list_length n)) ∙ list-at n i d l
  ]

  -- one entry of a walk from the front
  pub list-drop : (n i : ℕ) → A → i < n → drop i (list_of f w b xs n) ≡ f (words w (b + w * i) xs) ∷ drop (i + 1) (list_of f w b xs n)
  list-drop n i d h = let l : i < length (list_of f w b xs n) = omega (arith, list_length n) in
      rw (add-one) (drop-cons (list_of f w b xs n) i d l ∙ rw (list-at n i d h))

  -- a store elsewhere
  pub list-kept : (n at : ℕ) (vs : List ℕ) → Clear b (w * n) at (length vs) → list_of f w b (sets xs at vs) n ≡ list_of f w b xs n
  unfolding list_of
  list-kept zero at vs h = refl
  list-kept (suc n) at vs h =
      rw (
        list-kept n at vs (⊎_elim (λ p. inl (omega (arith, mul-suc w n))) (λ p. inr p) h),
        words-kept w (b + w * n) xs at vs (⊎_elim (λ p. inl (omega (arith, mul-suc w n))) (λ p. inr (omega arith)) h),
      )

  -- an entry stored behind the last is appended
  pub list-stored : (n : ℕ) (vs : List ℕ) → length vs ≡ w → b + w * n + w ≤ length xs
      → list_of f w b (sets xs (b + w * n) vs) (n + 1) ≡ list_of f w b xs n ++ (f vs ∷ [])
  unfolding list_of
  list-stored n vs e h = rw (add-one, list-kept n (b + w * n) vs (inl (omega arith)), words-stored w (b + w * n) xs vs e h)

-- a field of every entry, as a list of its own
pub list-map : {A B : Type 0} (g : A → B) (f : List ℕ → A) (w b : ℕ) (xs : List ℕ) (n : ℕ) → map g (list_of f w b xs n) ≡ list_of (λ ws. g (f ws)) w b xs n
unfolding list_of
list-map g f w b xs zero = refl
list-map g f w b xs (suc n) = rw (map-append, list-map g f w b xs n)
