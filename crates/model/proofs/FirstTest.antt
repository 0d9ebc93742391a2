-- A list of tests gives the number of the first that holds: each line of a refusal table is read off its tests. Assumes nothing.
use mathlib.Core.Path.{◌≡◌, refl, sym, ap, ◌∙◌}
use mathlib.Core.Bool.{Bool, true, false, cond, not, ◌&&◌, ◌||◌, true≢false, false≢true}
use mathlib.Core.Logic.{◌↔◌, ◌≢◌, ◌⊎◌, inl, inr, ⊎_elim}
use mathlib.Core.List.{List, [], ◌∷◌, ◌++◌, map}
use Prim.Native.Nat.{ℕ, ◌≤◌, ◌<◌}
use native.Mathlib.Omega.{arith}
use lib.Dec.{eqb, ltb, leb}
use borrow.Author.Tests.{eqb-true, eqb-false, eq-eqb, ne_eqb, ltb-true, ltb-false, lt-ltb, le-ltb, leb-true, leb-false, le-leb, lt-leb}
use Rattle.base_lists.specs.Lists.{some_of, all_of, Among}
use Rattle.base_lists.proofs.ListLaws.{and_l, and_r, some-which, which-some, none_each, is_false}
use Rattle.model.specs.Refusals.{Refusal, refusal_number}
use Rattle.model.specs.Given.{◌and◌, GivenWhen}

-- a test holds exactly when Yes does, and fails exactly when No does
pub record Test (b : Bool) (Yes No : Type 0) : Type 0 where
  pub holds : b ≡ true → Yes
  pub fails : b ≡ false → No
  pub if_yes : Yes → b ≡ true
  pub if_no : No → b ≡ false

-- a test as it stands, and its opposite
pub itself : (b : Bool) → Test b (b ≡ true) (b ≡ false)
itself b = record { holds = λ e. e; fails = λ e. e; if_yes = λ e. e; if_no = λ e. e }

pub opposite : {b : Bool} {Yes No : Type 0} → Test b Yes No → Test (not b) No Yes
opposite {b} {Yes} {No} t = go b t
  where
    go : (b : Bool) → Test b Yes No → Test (not b) No Yes
    go true t = record { holds = λ e. absurd (false≢true e); fails = λ e. t.holds refl; if_yes = λ n. sym (t.if_no n); if_no = λ y. refl }
    go false t = record { holds = λ e. t.fails refl; fails = λ e. absurd (true≢false e); if_yes = λ n. refl; if_no = λ y. sym (t.if_yes y) }

-- either of two tests
pub either : {a b : Bool} {A B C D : Type 0} → Test a A C → Test b B D → Test (a || b) (A ⊎ B) (C × D)
either {a} {b} {A} {B} {C} {D} s t = go a s
  where
    go : (a : Bool) → Test a A C → Test (a || b) (A ⊎ B) (C × D)
    go true s = record { holds = λ e. inl (s.holds refl); fails = λ e. absurd (true≢false e); if_yes = λ y. refl; if_no = λ n. s.if_no n.0 }
    go false s = record {
      holds = λ e. inr (t.holds e);
      fails = λ e. (s.fails refl, t.fails e);
      if_yes = λ y. ⊎_elim (λ p. absurd (false≢true (s.if_yes p))) t.if_yes y;
      if_no = λ n. t.if_no n.1;
    }

-- both of two tests
pub both : {a b : Bool} {A B C D : Type 0} → Test a A C → Test b B D → Test (a && b) (A × B) (C ⊎ D)
both {a} {b} {A} {B} {C} {D} s t = go a s
  where
    go : (a : Bool) → Test a A C → Test (a && b) (A × B) (C ⊎ D)
    go true s = record {
      holds = λ e. (s.holds refl, t.holds e);
      fails = λ e. inr (t.fails e);
      if_yes = λ y. t.if_yes y.1;
      if_no = λ n. ⊎_elim (λ c. absurd (true≢false (s.if_no c))) t.if_no n;
    }
    go false s = record { holds = λ e. absurd (false≢true e); fails = λ e. inl (s.fails refl); if_yes = λ y. s.if_yes y.0; if_no = λ n. refl }

pub less : (a b : ℕ) → Test (ltb a b) (a < b) (b ≤ a)
less a b = record { holds = ltb-true a b; fails = ltb-false a b; if_yes = lt-ltb a b; if_no = le-ltb a b }

pub at_most : (a b : ℕ) → Test (leb a b) (a ≤ b) (b < a)
at_most a b = record { holds = leb-true a b; fails = leb-false a b; if_yes = le-leb a b; if_no = lt-leb a b }

pub equal : (a b : ℕ) → Test (eqb a b) (a ≡ b) (a ≢ b)
equal a b = record { holds = eqb-true a b; fails = eqb-false a b; if_yes = eq-eqb a b; if_no = ne_eqb a b }

-- some entry, or no entry
pub any : {A : Type 0} {Yes No : A → Type 0} (test : A → Bool) (xs : List A) → ((x : A) → Test (test x) (Yes x) (No x))
    → Test (some_of test xs) ((x : A) × Among x xs × Yes x) ((x : A) → Among x xs → No x)
any test xs t = record {
  holds = λ e. let w = some-which test xs e in (w.0, w.1, (t w.0).holds w.2);
  fails = λ e x m. (t x).fails (none_each test xs e x m);
  if_yes = λ w. which-some test xs w.0 w.1 ((t w.0).if_yes w.2);
  if_no = λ h. is_false _ (λ e. let w = some-which test xs e in true≢false (sym w.2 ∙ (t w.0).if_no (h w.0 w.1)));
}

-- the number of the first test that holds, 0 where none does
unfoldable pub code : List (Bool × Refusal) → ℕ
code [] = 0
code (c ∷ cs) = cond c.0 (refusal_number c.1) (code cs)

-- no other number is given
pub given-among : (cs : List (Bool × Refusal)) → Among (code cs) (map (λ c. refusal_number c.1) cs ++ (0 ∷ []))
unfolding code
given-among [] = inl refl
given-among (c ∷ cs) = go c.0 (given-among cs)
  where
    go : (b : Bool) → Among (code cs) (map (λ c. refusal_number c.1) cs ++ (0 ∷ []))
        → Among (cond b (refusal_number c.1) (code cs)) (refusal_number c.1 ∷ (map (λ c. refusal_number c.1) cs ++ (0 ∷ [])))
    go true later = inl refl
    go false later = inr later

-- none of these tests gives n
abbrev pub without : ℕ → List (Bool × Refusal) → Bool
without n cs = all_of (λ c. not (eqb (refusal_number c.1) n)) cs

not-given : (n : ℕ) (cs : List (Bool × Refusal)) → 1 ≤ n → without n cs ≡ true → code cs ≢ n
unfolding code all_of
not-given n [] l w e = omega arith
not-given n (c ∷ cs) l w e = go c.0 (not-given n cs l (and_r (not (eqb (refusal_number c.1) n)) _ w)) e
  where
    go : (b : Bool) → code cs ≢ n → cond b (refusal_number c.1) (code cs) ≢ n
    go true later f = true≢false (sym (and_l (not (eqb (refusal_number c.1) n)) _ w) ∙ ap not (eq-eqb _ _ f))
    go false later f = later f

module _ (n : ℕ) {Yes No : Type 0} where
  -- this test gives n, and no later one does
  pub stop : (b : Bool) (r : Refusal) (cs : List (Bool × Refusal)) → Test b Yes No → (refusal_number r ≡ n) × (1 ≤ n) → without n cs ≡ true
      → code ((b, r) ∷ cs) ≡ n ↔ Yes
  unfolding code
  stop true r cs t e w = (λ f. t.holds refl, λ y. e.0)
  stop false r cs t e w = (λ f. absurd (not-given n cs e.1 w f), λ y. absurd (false≢true (t.if_yes y)))

  -- this test gives another number, so it fails, and the later ones decide
  pub skip : {P : Type 0} (b : Bool) (r : Refusal) (cs : List (Bool × Refusal)) → Test b Yes No → refusal_number r ≢ n → (No → code cs ≡ n ↔ P)
      → code ((b, r) ∷ cs) ≡ n ↔ No and P
  unfolding code
  skip true r cs t d later = (λ e. absurd (d e), λ p. absurd (true≢false (t.if_no p.0)))
  skip false r cs t d later = (λ e. (t.fails refl, (later (t.fails refl)).0 e), λ p. (later p.0).1 p.1)

  -- this test gives n, and so may a later one
  pub stop-or : {P : Type 0} (b : Bool) (r : Refusal) (cs : List (Bool × Refusal)) → Test b Yes No → refusal_number r ≡ n → (No → code cs ≡ n ↔ P)
      → code ((b, r) ∷ cs) ≡ n ↔ Yes ⊎ (No and P)
  unfolding code
  stop-or true r cs t e later = (λ f. inl (t.holds refl), λ y. e)
  stop-or false r cs t e later =
      (λ f. inr (t.fails refl, (later (t.fails refl)).0 f), λ y. ⊎_elim (λ p. absurd (false≢true (t.if_yes p))) (λ p. (later p.0).1 p.1) y)

-- the last test fails too: nothing is refused
pub pass : {Yes No : Type 0} (b : Bool) (r : Refusal) → Test b Yes No → refusal_number r ≢ 0 → code ((b, r) ∷ []) ≡ 0 ↔ No
unfolding code
pass true r t d = (λ e. absurd (d e), λ n. absurd (true≢false (t.if_no n)))
pass false r t d = (λ e. t.fails refl, λ n. refl)

-- A LIST OF TESTS AS A TABLE OF LINES

module _ (n : ℕ) where
  -- a test is a line of the table
  pub line : {Yes No P : Type 0} (b : Bool) (r : Refusal) (cs : List (Bool × Refusal)) → Test b Yes No → (No → code cs ≡ n ↔ P) → code ((b, r) ∷ cs) ≡ n
      ↔ GivenWhen (refusal_number r) Yes n P
  unfolding code
  line true r cs t later = (λ e. inl (t.holds refl, sym e), λ w. ⊎_elim (λ y. sym y.1) (λ o. absurd (o.0 (t.holds refl))) w)
  line false r cs t later = (
    λ e. inr ((λ y. false≢true (t.if_yes y)), (later (t.fails refl)).0 e),
    λ w. ⊎_elim (λ y. absurd (false≢true (t.if_yes y.0))) (λ o. (later (t.fails refl)).1 o.1) w,
  )

  -- where no test holds, 0 is given
  pub no_line : code [] ≡ n ↔ (n ≡ 0)
  unfolding code
  no_line = (λ e. sym e, λ e. sym e)
