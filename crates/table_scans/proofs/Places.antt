-- What an answered place says of the list: it is the first, or the last, at which the number stands; and what none says.
-- Assumes nothing.
use Prim.Native.Nat.{ℕ, zero, suc, ◌+◌, ◌<◌}
use mathlib.Core.Path.{◌≡◌, refl, sym, ◌∙◌}
use mathlib.Core.List.{List, [], ◌∷◌}
use mathlib.Core.Bool.{Bool, true, false, cond, ◌||◌, false≢true}
use mathlib.Core.Logic.{◌≢◌}
use native.Mathlib.Decide.{ℕ_discrete}
use native.Mathlib.Omega.{arith}
use borrow.Author.Tests.{eqb-true, eqb-false}
use lib.Dec.{eqb}
use lib.ListN.{length, get_or}
use Rattle.std.specs.Prelude.{Option, Some, None}
use Rattle.base_lists.specs.Lists.{member}
use Rattle.table_scans.specs.Scans.{first_from, first_place, last_below}
use Rattle.table_scans.proofs.Laws.{eqb-sym}

-- x stands at place i, and at none before
pub record First (l : List ℕ) (x i : ℕ) : Type 0 where
  pub below : i < length l
  pub holds : get_or l i 0 ≡ x
  pub before : (j : ℕ) → j < i → get_or l j 0 ≢ x

-- x stands at place i below n, and at none after
pub record Last (l : List ℕ) (x n i : ℕ) : Type 0 where
  pub below : i < n
  pub holds : get_or l i 0 ≡ x
  pub after : (j : ℕ) → i < j → j < n → get_or l j 0 ≢ x

-- x stands at no place below n
abbrev pub Absent : List ℕ → ℕ → ℕ → Type 0
Absent l x n = (j : ℕ) → j < n → get_or l j 0 ≢ x

-- x stands at some place below n
abbrev pub Present : List ℕ → ℕ → ℕ → Type 0
Present l x n = (i : ℕ) × (i < n) × (get_or l i 0 ≡ x)

-- none and a place are two answers
pub not-both : (f : Option ℕ) (i : ℕ) → f ≡ Some i → f ≡ None → ⊥
not-both f i p q = let z : ◌≡◌ {A = ℕ} 0 1 = cc in omega arith

-- one entry in front
absent-cons : (y : ℕ) (ys : List ℕ) (x n : ℕ) → y ≢ x → Absent ys x n → Absent (y ∷ ys) x (suc n)
absent-cons y ys x n d a zero h = d
absent-cons y ys x n d a (suc j) h = a j (omega arith)

first-cons : (k y : ℕ) (ys : List ℕ) (x i : ℕ) (b : Bool) → eqb y x ≡ b → (first_from (suc k) ys x ≡ Some i → (j : ℕ) × (i ≡ suc k + j) × First ys x j)
    → cond b (Some k) (first_from (suc k) ys x) ≡ Some i → (j : ℕ) × (i ≡ k + j) × First (y ∷ ys) x j
first-cons k y ys x i true t rest e = let q : k ≡ i = cc in
    (0, omega arith, record { below = omega arith; holds = eqb-true y x t; before = λ j h. absurd (omega arith) })
first-cons k y ys x i false t rest e =
    let r = rest e in
    let f = r.2 in (
      suc r.0,
      omega (arith, r.1),
      record { below = omega (arith, f.below); holds = f.holds; before = absent-cons y ys x r.0 (eqb-false y x t) f.before },
    )

first-from : (k : ℕ) (l : List ℕ) (x i : ℕ) → first_from k l x ≡ Some i → (j : ℕ) × (i ≡ k + j) × First l x j
unfolding first_from
first-from k [] x i e = absurd (not-both None i e refl)
first-from k (y ∷ ys) x i e = first-cons k y ys x i (eqb y x) refl (λ q. first-from (suc k) ys x i q) e

first-none-cons : (k y : ℕ) (ys : List ℕ) (x : ℕ) (b : Bool) → eqb y x ≡ b → (first_from (suc k) ys x ≡ None → Absent ys x (length ys))
    → cond b (Some k) (first_from (suc k) ys x) ≡ None → Absent (y ∷ ys) x (suc (length ys))
first-none-cons k y ys x true t rest e = absurd (not-both (Some k) k refl e)
first-none-cons k y ys x false t rest e = absent-cons y ys x (length ys) (eqb-false y x t) (rest e)

first-none-from : (k : ℕ) (l : List ℕ) (x : ℕ) → first_from k l x ≡ None → Absent l x (length l)
unfolding first_from
first-none-from k [] x e = λ j h. absurd (omega arith)
first-none-from k (y ∷ ys) x e = first-none-cons k y ys x (eqb y x) refl (λ q. first-none-from (suc k) ys x q) e

-- the first place
module _ (l : List ℕ) (x : ℕ) where
  pub first-at : (i : ℕ) → first_place l x ≡ Some i → First l x i
  first-at i e = let r = first-from 0 l x i e in let q : i ≡ r.0 = omega (arith, r.1) in rw q r.2

  pub first-none : first_place l x ≡ None → Absent l x (length l)
  first-none = first-none-from 0 l x

-- the last place below n
last-at-cons : (l : List ℕ) (x n i : ℕ) (b : Bool) → eqb (get_or l n 0) x ≡ b → (last_below l x n ≡ Some i → Last l x n i)
    → cond b (Some n) (last_below l x n) ≡ Some i → Last l x (suc n) i
last-at-cons l x n i true t rest e =
    let q : n ≡ i = cc in
    record { below = omega arith; holds = rw (← q) (eqb-true (get_or l n 0) x t); after = λ j h k. absurd (omega arith) }
last-at-cons l x n i false t rest e =
    let f = rest e in
    record {
      below = omega (arith, f.below);
      holds = f.holds;
      after = λ j h k. elim (ℕ_discrete j n) [ yes q ↦ rw q (eqb-false (get_or l n 0) x t) | no q ↦ f.after j h (omega (arith, q)) ];
    }

pub last-at : (l : List ℕ) (x n i : ℕ) → last_below l x n ≡ Some i → Last l x n i
unfolding last_below
last-at l x zero i e = absurd (not-both None i e refl)
last-at l x (suc n) i e = last-at-cons l x n i (eqb (get_or l n 0) x) refl (λ q. last-at l x n i q) e

last-none-cons : (l : List ℕ) (x n : ℕ) (b : Bool) → eqb (get_or l n 0) x ≡ b → (last_below l x n ≡ None → Absent l x n)
    → cond b (Some n) (last_below l x n) ≡ None → Absent l x (suc n)
last-none-cons l x n true t rest e = absurd (not-both (Some n) n refl e)
last-none-cons l x n false t rest e = λ j h. elim (ℕ_discrete j n) [ yes q ↦ rw q (eqb-false (get_or l n 0) x t) | no q ↦ rest e j (omega (arith, q)) ]

pub last_none : (l : List ℕ) (x n : ℕ) → last_below l x n ≡ None → Absent l x n
unfolding last_below
last_none l x zero e = λ j h. absurd (omega arith)
last_none l x (suc n) e = last-none-cons l x n (eqb (get_or l n 0) x) refl (λ q. last_none l x n q) e

-- a number is a member exactly where it has a first place
abbrev pub is_place : Option ℕ → Bool
is_place (Some i) = true
is_place None = false

member-cons : (k : ℕ) (b m : Bool) (r : Option ℕ) → m ≡ is_place r → (b || m) ≡ is_place (cond b (Some k) r)
member-cons k true m r e = refl
member-cons k false m r e = e

member-from : (k : ℕ) (l : List ℕ) (x : ℕ) → member x l ≡ is_place (first_from k l x)
unfolding member first_from
member-from k [] x = refl
member-from k (y ∷ ys) x = rw (eqb-sym x y) (member-cons k (eqb y x) (member x ys) (first_from (suc k) ys x) (member-from (suc k) ys x))

pub member-place : (l : List ℕ) (x : ℕ) → member x l ≡ is_place (first_place l x)
member-place l x = member-from 0 l x

-- a member stands at some place, and what stands at some place is a member
module _ (l : List ℕ) (x : ℕ) where
  pub member-present : member x l ≡ true → Present l x (length l)
  member-present m = go (first_place l x) refl
    where
      go : (f : Option ℕ) → first_place l x ≡ f → Present l x (length l)
      go (Some i) e = let f = first-at l x i e in (i, f.below, f.holds)
      go None e = absurd (false≢true (sym (rw e at (member-place l x)) ∙ m))

  pub present-member : Present l x (length l) → member x l ≡ true
  present-member p = go (first_place l x) refl
    where
      go : (f : Option ℕ) → first_place l x ≡ f → member x l ≡ true
      go (Some i) e = rw (member-place, e)
      go None e = absurd (first-none l x e p.0 p.1 p.2)

  pub absent_none : Absent l x (length l) → first_place l x ≡ None
  absent_none a = go (first_place l x) refl
    where
      go : (f : Option ℕ) → first_place l x ≡ f → f ≡ None
      go (Some i) e = let f = first-at l x i e in absurd (a i f.below f.holds)
      go None e = refl

pub absent-last : (l : List ℕ) (x n : ℕ) → Absent l x n → last_below l x n ≡ None
absent-last l x n a = go (last_below l x n) refl
  where
    go : (f : Option ℕ) → last_below l x n ≡ f → f ≡ None
    go (Some i) e = let f = last-at l x n i e in absurd (a i f.below f.holds)
    go None e = refl
