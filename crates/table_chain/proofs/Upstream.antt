-- Where what a transaction sees upstream is what it sees here, and the one place where it is not.
-- Assumes nothing.
use Prim.Native.Nat.{ℕ, zero, suc, ◌≤◌, ◌<◌}
use mathlib.Core.Path.{◌≡◌, refl, sym, ◌∙◌}
use mathlib.Core.List.{List}
use mathlib.Core.Bool.{Bool, true, false, not, ◌&&◌, ◌||◌, and-false, or-true, not-not}
use mathlib.Core.Logic.{◌≢◌, ◌⊎◌, ⊎_elim}
use native.Mathlib.Decide.{ℕ_discrete, dec_lt}
use native.Mathlib.Omega.{arith}
use borrow.Author.Tests.{eq-eqb, ne_eqb, eqb-false, lt-ltb, le-ltb, le-leb, lt-leb}
use lib.Dec.{eqb, leb, ltb}
use Rattle.std.specs.Prelude.{Option}
use Rattle.base_lists.specs.Lists.{member}
use Rattle.table.specs.Fields.{xmin_of, xmax_of, next_of}
use Rattle.table_chain.specs.declared.Snapshot.{Snapshot}
use Rattle.table_chain.specs.Chain.{active_of, seen_by, visible_to, known, first_visible}
use Rattle.table_chain.specs.Upstream.{creator_visible, row_visible, chain_step, Taken}
use Rattle.table_chain.proofs.Laws.{first-visible-step}

module _ (own : ℕ) (s : Snapshot) (t : Taken own s) where
  -- a number below the snapshot's xmin is not active
  below-xmin : (n : ℕ) → n < s.xmin → member n (active_of s) ≡ false
  below-xmin n h = go (member n (active_of s)) refl
    where
      go : (b : Bool) → member n (active_of s) ≡ b → b ≡ false
      go true e = absurd (omega (arith, t.least-active n e))
      go false e = refl

  own-seen : seen_by (active_of s) s.xmax own ≡ true
  own-seen = rw (lt-ltb own s.xmax t.below, t.apart)

  -- `creator_visible` is `seen`
  pub creator-visible-is-seen : (n : ℕ) → creator_visible own s n ≡ seen_by (active_of s) s.xmax n
  creator-visible-is-seen n = elim (ℕ_discrete n own) [
    | yes e ↦ rw (e, eq-eqb own own refl) (sym own-seen)
    | no d ↦ elim (dec_lt n s.xmin) [
      | yes l ↦ rw (ne_eqb n own d, lt-ltb n s.xmin l, lt-ltb n s.xmax (omega (arith, t.below, t.least-own)), below-xmin n l)
      | no l ↦ rw (ne_eqb n own d, le-ltb n s.xmin (omega (arith, l)))
    ]
  ]

  -- a version that is not ended: the same test
  not_seen : (x : ℕ) (m : Bool) → (leb s.xmax x || m) ≡ not (ltb x s.xmax && not m)
  not_seen x m = elim (dec_lt x s.xmax) [
    | yes l ↦ rw (lt-leb s.xmax x l, lt-ltb x s.xmax l) (sym (not-not m))
    | no l ↦ let h : s.xmax ≤ x = omega (arith, l) in rw (le-leb s.xmax x h, le-ltb x s.xmax h)
  ]

  not-ended : (x : ℕ) → (not (eqb x own) && (leb s.xmax x || member x (active_of s))) ≡ not (seen_by (active_of s) s.xmax x)
  not-ended x = elim (ℕ_discrete x own) [
    | yes e ↦ rw (e, eq-eqb own own refl, own-seen)
    | no d ↦ rw (ne_eqb x own d) (not_seen x (member x (active_of s)))
  ]

  -- `visible` is the same of every version but one that the own number made and a seen number ended
  pub visible-same : (xminᵥ xmaxᵥ : ℕ) → (xminᵥ ≡ own → (xmaxᵥ ≡ 0) ⊎ (seen_by (active_of s) s.xmax xmaxᵥ ≡ false))
      → row_visible own s xminᵥ xmaxᵥ ≡ visible_to (active_of s) s.xmax xminᵥ xmaxᵥ
  visible-same xminᵥ xmaxᵥ h = elim (ℕ_discrete xminᵥ own) [
    | yes e ↦ ⊎_elim (λ z. rw (e, eq-eqb own own refl, own-seen, eq-eqb xmaxᵥ 0 z))
        (λ z. rw (e, eq-eqb own own refl, own-seen) (sym (rw z (or-true (eqb xmaxᵥ 0))))) (h e)
    | no d ↦ rw (creator-visible-is-seen xminᵥ, not-ended xmaxᵥ, ne_eqb xminᵥ own d)
  ]

  -- such a version upstream still sees, and document 01 does not
  pub visible-differs : (xmaxᵥ : ℕ) → xmaxᵥ ≢ 0 → seen_by (active_of s) s.xmax xmaxᵥ ≡ true
      → (row_visible own s own xmaxᵥ ≡ true) × (visible_to (active_of s) s.xmax own xmaxᵥ ≡ false)
  visible-differs xmaxᵥ d e = (rw (eq-eqb own own refl), rw (own-seen, ne_eqb xmaxᵥ 0 d, e))

-- `first_visible`: whatever unrolls as upstream's does, where pointers fall and no version is of the kind that differs, is `first_visible`
module _ (own : ℕ) (s : Snapshot) (t : Taken own s) (versions : List ℕ) (used : ℕ)
    (falls : (p : ℕ) → p ≢ 0 → known versions used p ≡ true → next_of versions p < p)
    (kept : (p : ℕ) → known versions used p ≡ true → xmin_of versions p ≡ own
    → (xmax_of versions p ≡ 0) ⊎ (seen_by (active_of s) s.xmax (xmax_of versions p) ≡ false))
    (first : ℕ → Option ℕ) (unrolls : (p : ℕ) → first p ≡ chain_step own versions used s first p) where
  step_same : (p : ℕ) (k z : Bool) → known versions used p ≡ k → eqb p 0 ≡ z → ((q : ℕ) → q < p → first q ≡ first_visible versions used s q)
      → chain_step own versions used s first p ≡ first_visible versions used s p
  step_same p k true ek ez rest = rw (first-visible-step versions used s p, ez, and-false)
  step_same p false false ek ez rest = rw (first-visible-step versions used s p, ek, ez)
  step_same p true false ek ez rest =
      let l = falls p (eqb-false p 0 ez) ek in
      rw (
        first-visible-step versions used s p,
        ek,
        ez,
        visible-same own s t (xmin_of versions p) (xmax_of versions p) (kept p ek),
        lt-ltb (next_of versions p) p l,
        rest (next_of versions p) l,
      )

  same-upto : (k p : ℕ) → p ≤ k → first p ≡ first_visible versions used s p
  same-upto zero p h = unrolls p ∙ step_same p (known versions used p) (eqb p 0) refl refl (λ q l. absurd (omega arith))
  same-upto (suc k) p h = unrolls p ∙ step_same p (known versions used p) (eqb p 0) refl refl (λ q l. same-upto k q (omega arith))

  pub first-visible-same : (p : ℕ) → first p ≡ first_visible versions used s p
  first-visible-same p = same-upto p p (omega arith)
