-- The rows of a list, the place of the last of them, and what the links lead to where they tell them.
-- Assumes nothing.
use Prim.Native.Nat.{ℕ, zero, suc, ◌+◌, ◌-◌, ◌≤◌, ◌<◌}
use mathlib.Core.Path.{◌≡◌, refl, sym, ap, ◌∙◌}
use mathlib.Core.Logic.{◌≢◌, ◌⊎◌, ⊎_elim}
use mathlib.Core.Bool.{Bool, true, false, cond, not, true≢false}
use mathlib.Core.List.{List, ◌∷◌}
use native.Mathlib.Omega.{arith}
use lib.Dec.{eqb}
use borrow.Author.Tests.{eqb-true, eq-eqb, ne_eqb, not-true}
use Rattle.base_lists.specs.Lists.{pick}
use Rattle.base_lists.proofs.ListLaws.{and_l, and_r}
use Rattle.table.specs.Fields.{posted_of, posted_key_of}
use Rattle.table_postings.specs.Postings.{list_for, posted_with, follow, keyed_of}
use Rattle.table_postings.specs.Links.{link_at, last_place, place_before, in_list, last_in}
use Rattle.table_postings.proofs.Relinking.{last, Linked, leads-on}

-- a row that is in a list is posted, with a key of that list
module _ (rows : List ℕ) (row_count i r : ℕ) (t : in_list rows row_count i r ≡ true) where
  pub in-posted : eqb (posted_of rows r) 0 ≡ false
  in-posted = not-true _ (and_l (not (eqb (posted_of rows r) 0)) (eqb (list_for row_count (posted_key_of rows r)) i) t)

  pub in-which : list_for row_count (posted_key_of rows r) ≡ i
  in-which = eqb-true _ _ (and_r (not (eqb (posted_of rows r) 0)) (eqb (list_for row_count (posted_key_of rows r)) i) t)

-- the last place in a list is that of the rows in it
pub last-in : (rows : List ℕ) (row_count i r : ℕ) → last_in rows row_count i r ≡ last (in_list rows row_count i) r
unfolding last_in last
last-in rows row_count i zero = refl
last-in rows row_count i (suc r) = rw (last-in rows row_count i r)

-- the links of each list tell its rows
abbrev pub Lists : (ℕ → ℕ → Bool) → List ℕ → ℕ → Type 0
Lists within rows row_count = (i : ℕ) → i < row_count → Linked (within i) (link_at rows i) row_count

-- the rows that the links lead to are the listed ones
pub follow-listed : (rows : List ℕ) (i : ℕ) (listed : ℕ → Bool) (most : ℕ) → Linked listed (link_at rows i) most → (n k : ℕ) → k + n ≤ most
    → follow rows (link_at rows i (last listed k)) k n ≡ pick listed k n
unfolding follow pick last link_at
follow-listed rows i listed most l zero k h = refl
follow-listed rows i listed most l (suc n) k h = by (listed k) refl (follow-listed rows i listed most l n (suc k) (omega arith))
  where
    other : listed k ≡ false → link_at rows i (last listed k) ≢ suc k
    other t e =
        let d : suc k + (most - suc k) ≡ most = omega arith in
        let on : (link_at rows i (last listed k) ≡ 0) ⊎ (suc k < link_at rows i (last listed k)) =
        rw t at (leads-on listed (link_at rows i) most l (most - suc k) (suc k) d) in
        ⊎_elim (λ z. omega arith) (λ z. omega arith) on

    by : (t : Bool) → listed k ≡ t → follow rows (link_at rows i (cond t (suc k) (last listed k))) (suc k) n ≡ pick listed (suc k) n
        → follow rows (link_at rows i (last listed k)) k (suc n) ≡ cond t (k ∷ pick listed (suc k) n) (pick listed (suc k) n)
    by true t e = rw (l.named k (omega arith) t, eq-eqb (suc k) (suc k) refl) (ap (λ rs. k ∷ rs) e)
    by false t e = rw (ne_eqb (link_at rows i (last listed k)) (suc k) (other t)) e

-- the last place of the listed rows
last-pick : (listed : ℕ → Bool) (n k : ℕ) → last_place (last listed k) (pick listed k n) ≡ last listed (k + n)
unfolding pick last last_place
last-pick listed zero k = let e : k + 0 ≡ k = omega arith in rw e
last-pick listed (suc n) k = let e : k + suc n ≡ suc k + n = omega arith in rw e (by (listed k) (last-pick listed n (suc k)))
  where
    by : (t : Bool) → last_place (cond t (suc k) (last listed k)) (pick listed (suc k) n) ≡ last listed (suc k + n)
        → last_place (last listed k) (cond t (k ∷ pick listed (suc k) n) (pick listed (suc k) n)) ≡ last listed (suc k + n)
    by true e = e
    by false e = e

-- so the walk comes to the place of the last listed row
pub place-last : (rows : List ℕ) (i : ℕ) (listed : ℕ → Bool) (most : ℕ) → Linked listed (link_at rows i) most → (r : ℕ) → r ≤ most
    → place_before rows i r ≡ last listed r
unfolding last link_at
place-last rows i listed most l r h =
    let z : 0 + r ≡ r = omega arith in
    ap (λ rs. last_place 0 rs) (follow-listed rows i listed most l r 0 (omega arith)) ∙ (last-pick listed r 0 ∙ rw z)

-- of picked rows those posted with the key, where each of these is picked
pub keyed-pick : (rows : List ℕ) (key : ℕ) (listed : ℕ → Bool) → ((r : ℕ) → posted_with rows key r ≡ true → listed r ≡ true) → (k n : ℕ)
    → keyed_of rows key (pick listed k n) ≡ pick (posted_with rows key) k n
unfolding keyed_of pick
keyed-pick rows key listed h k zero = refl
keyed-pick rows key listed h k (suc n) = by (listed k) refl (posted_with rows key k) refl (keyed-pick rows key listed h (suc k) n)
  where
    by : (t : Bool) → listed k ≡ t → (u : Bool) → posted_with rows key k ≡ u
        → keyed_of rows key (pick listed (suc k) n) ≡ pick (posted_with rows key) (suc k) n
        → keyed_of rows key (cond t (k ∷ pick listed (suc k) n) (pick listed (suc k) n))
        ≡ cond u (k ∷ pick (posted_with rows key) (suc k) n) (pick (posted_with rows key) (suc k) n)
    by true t true u e = rw (u, e)
    by true t false u e = rw (u, e)
    by false t true u e = absurd (true≢false (sym (h k u) ∙ t))
    by false t false u e = e
