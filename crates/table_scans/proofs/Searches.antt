-- What a search over the places of a column answers, as the definitions have it.
-- Assumes nothing.
use Rattle.std.proofs.Common.{◌≡◌, ◌≢◌, ⊎_elim, ℕ, suc, ◌+◌, ◌<◌, ◌≤◌, Bool, eqb, refl, sym, ◌∙◌, arith}
use Rattle.std.proofs.Common.{List, [], ◌∷◌, map, length, get_or, Option, Some, None, MatchOption}
use Rattle.std.specs.List.{list_any, range_with_len}
use Rattle.std.proofs.lemmas.Bool.{cases_order}
use Rattle.base_lists.specs.Lists.{member}
use Rattle.table.specs.Lists.{Kind, entry_at, list_at}
use Rattle.table_scans.specs.Scans.{first_place}
use Rattle.table_scans.proofs.Laws.{eqb-sym, fields-length, fields_at}
use Rattle.table_scans.proofs.Places.{First, Absent, first-at, first-none, absent_none}

-- at most one place is the first
one-first : (l : List ℕ) (x i j : ℕ) → First l x i → First l x j → i ≡ j
one-first l x i j f g =
    ⊎_elim (λ q. q) (⊎_elim (λ h. absurd (g.before i h f.holds)) (λ h. absurd (f.before j h g.holds))) (cases_order i j)

-- so an answer with what the definition's says is the definition's
first-answered : (l : List ℕ) (x : ℕ) (r : Option ℕ) → MatchOption r (Absent l x (length l)) (First l x) → r ≡ first_place l x
first-answered l x None a = sym (absent_none l x a)
first-answered l x (Some i) f = go (first_place l x) refl
  where
    go : (o : Option ℕ) → first_place l x ≡ o → Some i ≡ first_place l x
    go None e = absurd (first-none l x e i f.below f.holds)
    go (Some j) e = rw (one-first l x i j f (first-at l x j e)) (sym e)

-- the same of a field of a slot's entries, as a search over their places tells it
module _ {A : Type 0} (g : A → ℕ) (f : List ℕ → A) (k : Kind) (xs : List ℕ) (s n x : ℕ) where
  pub fields-found : (r : Option ℕ) → MatchOption r ((j : ℕ) → 0 ≤ j → j < n → g (entry_at f k xs s j) ≢ x)
      (λ i. (0 ≤ i) × (i < n) × (g (entry_at f k xs s i) ≡ x) × ((j : ℕ) → 0 ≤ j → j < i → g (entry_at f k xs s j) ≢ x))
      → r ≡ first_place (map g (list_at f k xs s n)) x
  fields-found None a = first-answered (map g (list_at f k xs s n)) x None
      (λ j h q. let l : j < n = omega (arith, fields-length g f k xs s n) in a j (omega arith) l (sym (fields_at g f k xs s n j l) ∙ q))
  fields-found (Some i) a = first-answered (map g (list_at f k xs s n)) x (Some i) (record {
    below = omega (arith, a.1, fields-length g f k xs s n);
    holds = fields_at g f k xs s n i a.1 ∙ a.2;
    before = λ j h q. let l : j < n = omega (arith, a.1) in a.3 j (omega arith) h (sym (fields_at g f k xs s n j l) ∙ q);
  })

-- whether some number of a list is x
pub any-member : (x : ℕ) (l : List ℕ) → list_any (λ y. eqb y x) l ≡ member x l
unfolding member
any-member x [] = refl
any-member x (y ∷ ys) = rw (eqb-sym y x, any-member x ys)

-- the same by a test of each place, from a first one on
any-places : (test : ℕ → Bool) (x from : ℕ) (l : List ℕ) → ((i j : ℕ) → i < length l → j ≡ from + i → test j ≡ eqb (get_or l i 0) x)
    → list_any test (range_with_len from (length l)) ≡ member x l
unfolding member
any-places test x from [] h = refl
any-places test x from (y ∷ ys) h =
    rw (h 0 from (omega arith) (omega arith), eqb-sym y x, any-places test x (from + 1) ys (λ i j l e. h (suc i) j (omega arith) (omega (arith, e))))

-- whether a field of some entry of a slot's list is x, by a test of each place
pub fields-any : {A : Type 0} (g : A → ℕ) (f : List ℕ → A) (k : Kind) (xs : List ℕ) (s n x : ℕ)
    → list_any (λ i. eqb (g (entry_at f k xs s i)) x) (range_with_len 0 n) ≡ member x (map g (list_at f k xs s n))
fields-any g f k xs s n x =
    rw (fields-length g f k xs s n) at (any-places (λ i. eqb (g (entry_at f k xs s i)) x) x 0 (map g (list_at f k xs s n))
    (λ i j h e. let l : i < n = omega (arith, fields-length g f k xs s n) in let q : j ≡ i = omega arith in rw (q, fields_at g f k xs s n i l)))
