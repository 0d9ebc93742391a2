-- Laws of tables: the new entry, every other, and what holds of each. Assumes nothing.
use Rattle.std.specs.Prelude.{◌≡◌, refl, Bool, true, false, cond, ◌≢◌, List, ℕ}
use Rattle.std.proofs.Math.Decide.{ℕ_discrete}
use Rattle.std.proofs.Common.{eq-eqb, ne_eqb}
use Rattle.base_lists.specs.Lists.{member}
use Rattle.base_lists.specs.Table.{update, update_all}

module _ {A : Type 0} where
  pub update_same : (f : ℕ → A) (i : ℕ) (v : A) → update f i v i ≡ v
  unfolding update
  update_same f i v = rw (eq-eqb i i refl)

  pub update_other : (f : ℕ → A) (i : ℕ) (v : A) (j : ℕ) → j ≢ i → update f i v j ≡ f j
  unfolding update
  update_other f i v j n = rw (ne_eqb j i n)

  -- what holds of the new entry, and of every old one that stays, holds of each entry
  pub update-elim : (P : A → Type 0) (f : ℕ → A) (i : ℕ) (v : A) (j : ℕ) → (j ≡ i → P v) → (j ≢ i → P (f j)) → P (update f i v j)
  update-elim P f i v j same other = go (ℕ_discrete j i)
    where
      go : Dec (j ≡ i) → P (update f i v j)
      go (yes e) = rw (e, update_same) (same e)
      go (no n) = rw (update_other f i v j n) (other n)

-- a field that the new entry shares with the old one is untouched everywhere
pub update-field : {A B : Type 0} (g : A → B) (f : ℕ → A) (i : ℕ) (v : A) (j : ℕ) → g v ≡ g (f i) → g (update f i v j) ≡ g (f j)
update-field g f i v j e = update-elim (λ x. g x ≡ g (f j)) f i v j (λ d. rw d e) (λ d. refl)

-- a test that chooses a value: what holds of both choices holds of the choice
pub cond-elim : {A : Type 0} (P : A → Type 0) (t : Bool) (x y : A) → (t ≡ true → P x) → (t ≡ false → P y) → P (cond t x y)
cond-elim P true x y p q = p refl
cond-elim P false x y p q = q refl

-- what holds of v at the entries named, and of the old ones elsewhere, holds of each entry
pub update_all-elim : {A : Type 0} (P : A → Type 0) (f : ℕ → A) (is : List ℕ) (v : A) (j : ℕ) → (member j is ≡ true → P v)
    → (member j is ≡ false → P (f j)) → P (update_all f is v j)
unfolding update_all
update_all-elim P f is v j p q = cond-elim P (member j is) v (f j) p q
