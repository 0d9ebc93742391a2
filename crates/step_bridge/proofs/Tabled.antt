-- Fields set in the part of a table that its size names, one or all of a list: the model's `update`, `update_all` and `release`.
-- Assumes nothing.
use Prim.Native.Nat.{ℕ, ◌*◌, ◌≤◌, ◌<◌}
use mathlib.Core.Path.{◌≡◌, refl, sym, ap, ◌∙◌, fun_ext}
use mathlib.Core.Bool.{Bool, true, false, cond, ◌||◌}
use mathlib.Core.Logic.{◌≢◌, inl, inr}
use mathlib.Core.List.{List, [], ◌∷◌}
use native.Mathlib.Decide.{dec_lt}
use native.Mathlib.Omega.{arith}
use lib.Dec.{eqb}
use lib.ListN.{length, take, length-take}
use Rattle.base_lists.specs.Lists.{member, Among}
use Rattle.base_lists.specs.Table.{update, update_all}
use Rattle.table.specs.Words.{field, set_field, set_fields}
use Rattle.table.proofs.Laws.{below, field-update, field-kept, field-length}
use Rattle.table.proofs.Parts.{part_field, part-past, part-set, part-kept}

-- the first n entries of a table, w words each
abbrev pub part : ℕ → ℕ → List ℕ → List ℕ
part w n xs = take (w * n) xs

module _ (w k n : ℕ) (xs : List ℕ) (i v : ℕ) where
  pub part-update : k < w → i < n → w * n ≤ length xs → field w k (part w n (set_field w k xs i v)) ≡ update (field w k (part w n xs)) i v
  part-update hk h l = rw (part-set w k n xs i v hk h) (field-update w k (part w n xs) i v hk (rw length-take (omega (arith, below w i n k hk h))))

  pub part-other : (m : ℕ) → m < w → k < w → m ≢ k → field w m (part w n (set_field w k xs i v)) ≡ field w m (part w n xs)
  part-other m hm hk d = elim (dec_lt i n)
      [ yes h ↦ rw (part-set w k n xs i v hk h) (field-kept w k (part w n xs) i v m hm hk d) | no h ↦ rw (part-kept w k n xs i v (omega (arith, h))) ]

-- a field that stays stays in the part
pub part_same : (w k n : ℕ) (xs ys : List ℕ) → k < w → field w k xs ≡ field w k ys → field w k (part w n xs) ≡ field w k (part w n ys)
part_same w k n xs ys hk e = fun_ext λ i. elim (dec_lt i n) [
  | yes h ↦ part_field w k n xs i hk h ∙ (ap (λ (f : ℕ → ℕ). f i) e ∙ sym (part_field w k n ys i hk h))
  | no h ↦ part-past w k n xs i (omega (arith, h)) ∙ sym (part-past w k n ys i (omega (arith, h)))
]

-- one entry, and then all of a list
update-all : (f : ℕ → ℕ) (i v : ℕ) (is : List ℕ) → update_all (update f i v) is v ≡ update_all f (i ∷ is) v
unfolding update_all update member
update-all f i v is = fun_ext λ j. by (eqb j i) (member j is) (f j)
  where
    by : (a b : Bool) (y : ℕ) → cond b v (cond a v y) ≡ cond (a || b) v y
    by true true y = refl
    by true false y = refl
    by false true y = refl
    by false false y = refl

update-none : (f : ℕ → ℕ) (v : ℕ) → f ≡ update_all f [] v
unfolding update_all member
update-none f v = refl

-- each number of a list is below n
abbrev pub InRange : ℕ → List ℕ → Type 0
InRange n is = (i : ℕ) → Among i is → i < n

-- every entry that a list names: the field is updated there, the other fields stay, and so does the length
module _ (w k : ℕ) (hk : k < w) (n v : ℕ) where
  pub set_all : (xs is : List ℕ) → InRange n is → w * n ≤ length xs → field w k (part w n (set_fields w k xs v is)) ≡ update_all (field w k (part w n xs)) is v
  unfolding set_fields
  set_all xs [] h l = update-none _ v
  set_all xs (i ∷ is) h l =
      set_all (set_field w k xs i v) is (λ j m. h j (inr m)) (rw (field-length w k xs i v) l)
      ∙ (ap (λ (f : ℕ → ℕ). update_all f is v) (part-update w k n xs i v hk (h i (inl refl)) l) ∙ update-all _ i v is)

  pub set_other : (xs is : List ℕ) (m : ℕ) → m < w → m ≢ k → field w m (part w n (set_fields w k xs v is)) ≡ field w m (part w n xs)
  unfolding set_fields
  set_other xs [] m hm d = refl
  set_other xs (i ∷ is) m hm d = set_other (set_field w k xs i v) is m hm d ∙ part-other w k n xs i v m hm hk d

pub set-length : (w k v : ℕ) (xs is : List ℕ) → length (set_fields w k xs v is) ≡ length xs
unfolding set_fields
set-length w k v xs [] = refl
set-length w k v xs (i ∷ is) = set-length w k v (set_field w k xs i v) is ∙ field-length w k xs i v
