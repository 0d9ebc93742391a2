-- The walk from p is one step, with the walk itself for the rest: more steps than p change nothing.
-- Assumes nothing.
use Prim.Native.Nat.{ℕ, zero, suc, ◌<◌, ◌≤◌, ◌/◌}
use mathlib.Core.Path.{◌≡◌, refl, sym, ◌∙◌}
use mathlib.Core.Logic.{◌≢◌}
use mathlib.Core.List.{List}
use mathlib.Core.Bool.{Bool, true, false, cond, not, ◌&&◌}
use native.Mathlib.Omega.{arith}
use borrow.Author.Tests.{eqb-false, ltb-true, leb-true, lt-ltb, le-leb}
use lib.Dec.{eqb, leb, ltb}
use lib.ListN.{length}
use Rattle.std.specs.Prelude.{Option, Some, None}
use Rattle.base_lists.proofs.ListLaws.{and_l, and_r}
use Rattle.table.specs.Fields.{version_words, xmin_of, xmax_of, next_of}
use Rattle.table_chain.specs.declared.Snapshot.{Snapshot}
use Rattle.table_chain.specs.Chain.{active_of, visible_to, step_from, walk_for, walk_from, known, first_visible}

-- the first branch of a test may use that the test holds
cond-when : (b : Bool) (x y z : ℕ) → (b ≡ true → x ≡ y) → cond b x z ≡ cond b y z
cond-when true x y z e = e refl
cond-when false x y z e = refl

module _ (versions active : List ℕ) (xmax : ℕ) where
  step-agrees : (f g : ℕ → ℕ) (p : ℕ) → ((q : ℕ) → q < p → f q ≡ g q) → step_from versions active xmax f p ≡ step_from versions active xmax g p
  unfolding step_from
  step-agrees f g p e =
      let q = next_of versions p in
      rw (cond-when (ltb q p) (f q) (g q) 0 (λ t. e q (ltb-true q p t)))

  step-zero : (f : ℕ → ℕ) → step_from versions active xmax f 0 ≡ 0
  unfolding step_from
  step-zero f = refl

  steps-enough : (k j p : ℕ) → p ≤ k → p ≤ j → walk_for versions active xmax k p ≡ walk_for versions active xmax j p
  unfolding walk_for
  steps-enough zero zero p h i = refl
  steps-enough zero (suc j) p h i = let z : p ≡ 0 = omega arith in rw (z, step-zero)
  steps-enough (suc k) zero p h i = let z : p ≡ 0 = omega arith in rw (z, step-zero)
  steps-enough (suc k) (suc j) p h i =
      step-agrees (walk_for versions active xmax k) (walk_for versions active xmax j) p (λ q l. steps-enough k j q (omega arith) (omega arith))

  pub walk_step : (p : ℕ) → walk_from versions active xmax p ≡ step_from versions active xmax (walk_from versions active xmax) p
  unfolding walk_from walk_for
  walk_step zero = sym (step-zero (λ q. walk_for versions active xmax q q))
  walk_step (suc k) = step-agrees (walk_for versions active xmax k) (λ q. walk_for versions active xmax q q) (suc k)
      (λ q l. steps-enough k q q (omega arith) (omega arith))

-- none is no pointer
none-is-none : (q : ℕ) → ◌≡◌ {A = Option ℕ} None (Some q) → ⊥
none-is-none q e = let z : ◌≡◌ {A = ℕ} 0 1 = cc in omega arith

-- what a walk finds from a pointer below a known one is what it finds there
module _ (versions : List ℕ) (used : ℕ) (s : Snapshot) where
  known-below : (p q : ℕ) → q < p → known versions used p ≡ true → known versions used q ≡ true
  known-below p q l k =
      rw (
        le-leb q used (omega (arith, leb-true p used (and_l (leb p used) _ k))),
        lt-ltb q (length versions / version_words) (omega (arith, ltb-true p (length versions / version_words) (and_r (leb p used) _ k))),
      )

  -- one step, by the outcome of each test
  step_by : (p : ℕ) (k z v f : Bool) → known versions used p ≡ k → eqb p 0 ≡ z → visible_to (active_of s) s.xmax (xmin_of versions p) (xmax_of versions p)
      ≡ v → ltb (next_of versions p) p ≡ f
      → first_visible versions used s p ≡ cond (k && not z) (cond v (Some p) (cond f (first_visible versions used s (next_of versions p)) None)) None
  unfolding first_visible step_from
  step_by p false z v f ek ez ev ef = rw ek
  step_by p true true v f ek ez ev ef = rw (ek, walk_step, ez)
  step_by p true false true f ek ez ev ef = rw (ek, walk_step, ez, ev, ez)
  step_by p true false false true ek ez ev ef = rw (ek, walk_step, ez, ev, ef, known-below p (next_of versions p) (ltb-true (next_of versions p) p ef) ek)
  step_by p true false false false ek ez ev ef = rw (ek, walk_step, ez, ev, ef)

  -- `first_visible` unrolled: an unknown pointer or 0 gives none, then the version, then what the next pointer gives
  pub first-visible-step : (p : ℕ) → first_visible versions used s p ≡ cond (known versions used p && not (eqb p 0))
      (cond (visible_to (active_of s) s.xmax (xmin_of versions p) (xmax_of versions p)) (Some p)
      (cond (ltb (next_of versions p) p) (first_visible versions used s (next_of versions p)) None))
      None
  first-visible-step p = step_by p (known versions used p) (eqb p 0) _ (ltb (next_of versions p) p) refl refl refl refl

  -- an answered pointer is not 0, it is known, and its version is visible
  pub record Answered (q : ℕ) : Type 0 where
    pub some : q ≢ 0
    pub is_known : known versions used q ≡ true
    pub is-visible : visible_to (active_of s) s.xmax (xmin_of versions q) (xmax_of versions q) ≡ true

  answered-by : (p q : ℕ) (k z v f : Bool) → known versions used p ≡ k → eqb p 0 ≡ z
      → visible_to (active_of s) s.xmax (xmin_of versions p) (xmax_of versions p) ≡ v → ltb (next_of versions p) p ≡ f
      → (next_of versions p < p → first_visible versions used s (next_of versions p) ≡ Some q → Answered q)
      → cond (k && not z) (cond v (Some p) (cond f (first_visible versions used s (next_of versions p)) None)) None ≡ Some q → Answered q
  answered-by p q false z v f ek ez ev ef rest e = absurd (none-is-none q e)
  answered-by p q true true v f ek ez ev ef rest e = absurd (none-is-none q e)
  answered-by p q true false true f ek ez ev ef rest e = let d : p ≡ q = cc in rw (← d) (record { some = eqb-false p 0 ez; is_known = ek; is-visible = ev })
  answered-by p q true false false true ek ez ev ef rest e = rest (ltb-true (next_of versions p) p ef) e
  answered-by p q true false false false ek ez ev ef rest e = absurd (none-is-none q e)

  answered-upto : (n p q : ℕ) → p ≤ n → first_visible versions used s p ≡ Some q → Answered q
  answered-upto zero p q h e =
      answered-by p q (known versions used p) (eqb p 0) _ (ltb (next_of versions p) p) refl refl refl refl (λ l r. absurd (omega arith))
      (sym (first-visible-step p) ∙ e)
  answered-upto (suc n) p q h e =
      answered-by p q (known versions used p) (eqb p 0) _ (ltb (next_of versions p) p) refl refl refl refl
      (λ l r. answered-upto n (next_of versions p) q (omega arith) r) (sym (first-visible-step p) ∙ e)

  pub first-visible-answered : (p q : ℕ) → first_visible versions used s p ≡ Some q → Answered q
  first-visible-answered p q e = answered-upto p p q (omega arith) e
