-- Buckets and claims freed one after another: the model's `release`, where the list names all that carries the number.
-- Assumes nothing.
use Prim.Native.Nat.{ℕ, ◌*◌, ◌≤◌, ◌<◌}
use mathlib.Core.Path.{◌≡◌, refl, sym, ap, ◌∙◌, fun_ext}
use mathlib.Core.Bool.{Bool, true, false, cond, ◌||◌}
use mathlib.Core.Logic.{◌≢◌, inl, inr}
use mathlib.Core.List.{List, [], ◌∷◌}
use native.Mathlib.Decide.{ℕ_discrete}
use native.Mathlib.Omega.{arith}
use lib.Dec.{eqb}
use lib.ListN.{length}
use borrow.Author.Tests.{eq-eqb, ne_eqb, eqb-true}
use Rattle.base_lists.specs.Lists.{member, Among}
use Rattle.base_lists.specs.Table.{update}
use Rattle.base_lists.proofs.TableLaws.{update_same, update_other, cond-elim}
use Rattle.base_lists.proofs.ListLaws.{among-member}
use Rattle.model.specs.Steps.{release}
use Rattle.table.specs.Words.{field, set_field, clear_fields}
use Rattle.table.proofs.Laws.{field-length}
use Rattle.table.proofs.Parts.{part_field}
use Rattle.step_bridge.proofs.Tabled.{part, part-update, part-other, InRange}

-- freed at the entries that a list names
unfoldable pub freed_at : ℕ → (ℕ → ℕ) → List ℕ → ℕ → ℕ
freed_at n f is j = cond (member j is) (release n f j) (f j)

-- one entry, and then the others
freed-one : (n : ℕ) (f : ℕ → ℕ) (i : ℕ) (is : List ℕ) → freed_at n (update f i (release n f i)) is ≡ freed_at n f (i ∷ is)
unfolding freed_at release member update
freed-one n f i is = fun_ext λ j. by j (ℕ_discrete j i)
  where
    by : (j : ℕ) → Dec (j ≡ i)
        → cond (member j is) (cond (eqb (cond (eqb j i) (cond (eqb (f i) n) 0 (f i)) (f j)) n) 0 (cond (eqb j i) (cond (eqb (f i) n) 0 (f i)) (f j)))
        (cond (eqb j i) (cond (eqb (f i) n) 0 (f i)) (f j))
        ≡ cond (eqb j i || member j is) (cond (eqb (f j) n) 0 (f j)) (f j)
    by j (no d) = rw (ne_eqb j i d)
    by j (yes e) = rw (e, eq-eqb i i refl) (go (member i is) (eqb (f i) n) refl)
      where
        go : (b c : Bool) → eqb (f i) n ≡ c → cond b (cond (eqb (cond c 0 (f i)) n) 0 (cond c 0 (f i))) (cond c 0 (f i)) ≡ cond c 0 (f i)
        go false c q = refl
        go true false q = rw q
        go true true q = cond-elim (λ (y : ℕ). y ≡ 0) (eqb 0 n) 0 0 (λ t. refl) (λ t. refl)

-- all that carries the number is named, so that everything is released
pub freed-release : (n : ℕ) (f : ℕ → ℕ) (is : List ℕ) → ((j : ℕ) → f j ≡ n → Among j is) → freed_at n f is ≡ release n f
unfolding freed_at release
freed-release n f is h = fun_ext λ j. by j (member j is) refl (eqb (f j) n) refl
  where
    by : (j : ℕ) (b : Bool) → member j is ≡ b → (c : Bool) → eqb (f j) n ≡ c → cond b (cond c 0 (f j)) (f j) ≡ cond c 0 (f j)
    by j true p c q = refl
    by j false p false q = refl
    by j false p true q = absurd (no_both (member j is) (among-member j is (h j (eqb-true (f j) n q))) p)
      where
        no_both : (b : Bool) → b ≡ true → b ≡ false → ⊥
        no_both true e d = let z : ◌≡◌ {A = ℕ} 0 1 = cc in omega arith
        no_both false e d = let z : ◌≡◌ {A = ℕ} 0 1 = cc in omega arith

freed-none : (n : ℕ) (f : ℕ → ℕ) → f ≡ freed_at n f []
unfolding freed_at member
freed-none n f = refl

update_self : (f : ℕ → ℕ) (i v : ℕ) → v ≡ f i → f ≡ update f i v
update_self f i v e = fun_ext λ j. elim (ℕ_discrete j i) [ yes d ↦ rw (d, update_same f i v) (sym e) | no d ↦ rw (update_other f i v j d) ]

-- one entry, where it carries the number
module _ (w k : ℕ) where
  abbrev free_at : List ℕ → ℕ → ℕ → List ℕ
  free_at xs i v = cond (eqb (field w k xs i) v) (set_field w k xs i 0) xs

  free-length : (xs : List ℕ) (i v : ℕ) → length (free_at xs i v) ≡ length xs
  free-length xs i v = cond-elim (λ (ys : List ℕ). length ys ≡ length xs) (eqb (field w k xs i) v) (set_field w k xs i 0) xs (λ t. field-length w k xs i 0)
      (λ t. refl)

  pub clear-length : (v : ℕ) (xs is : List ℕ) → length (clear_fields w k xs v is) ≡ length xs
  unfolding clear_fields
  clear-length v xs [] = refl
  clear-length v xs (i ∷ is) = clear-length v (free_at xs i v) is ∙ free-length xs i v

module _ (w k : ℕ) (hk : k < w) (n v : ℕ) where
  free_one : (xs : List ℕ) (i : ℕ) → i < n → w * n ≤ length xs
      → field w k (part w n (free_at w k xs i v)) ≡ update (field w k (part w n xs)) i (release v (field w k (part w n xs)) i)
  unfolding release
  free_one xs i h l = rw (part_field w k n xs i hk h) (by (eqb (field w k xs i) v))
    where
      by : (b : Bool) → field w k (part w n (cond b (set_field w k xs i 0) xs)) ≡ update (field w k (part w n xs)) i (cond b 0 (field w k xs i))
      by true = part-update w k n xs i 0 hk h l
      by false = update_self (field w k (part w n xs)) i (field w k xs i) (sym (part_field w k n xs i hk h))

  free_other : (xs : List ℕ) (i m : ℕ) → m < w → m ≢ k → field w m (part w n (free_at w k xs i v)) ≡ field w m (part w n xs)
  free_other xs i m hm d =
      cond-elim (λ (ys : List ℕ). field w m (part w n ys) ≡ field w m (part w n xs)) (eqb (field w k xs i) v) (set_field w k xs i 0) xs
      (λ t. part-other w k n xs i 0 m hm hk d) (λ t. refl)

  -- every entry that a list names
  pub clear-all : (xs is : List ℕ) → InRange n is → w * n ≤ length xs
      → field w k (part w n (clear_fields w k xs v is)) ≡ freed_at v (field w k (part w n xs)) is
  unfolding clear_fields
  clear-all xs [] h l = freed-none v _
  clear-all xs (i ∷ is) h l =
      clear-all (free_at w k xs i v) is (λ j m. h j (inr m)) (rw (free-length w k xs i v) l)
      ∙ (ap (λ (f : ℕ → ℕ). freed_at v f is) (free_one xs i (h i (inl refl)) l) ∙ freed-one v _ i is)

  -- the other fields stay
  pub clear-other : (xs is : List ℕ) (m : ℕ) → m < w → m ≢ k → field w m (part w n (clear_fields w k xs v is)) ≡ field w m (part w n xs)
  unfolding clear_fields
  clear-other xs [] m hm d = refl
  clear-other xs (i ∷ is) m hm d = clear-other (free_at w k xs i v) is m hm d ∙ free_other xs i m hm d
