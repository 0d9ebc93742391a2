-- The walk as a relation: since xmax is the xmin of the version above, it finds the first version whose xmin is seen. Assumes nothing.
use mathlib.Core.Path.{◌≡◌, refl, sym, ap, ◌∙◌}
use mathlib.Core.Bool.{Bool, true, false, cond, not, ◌&&◌, ◌||◌, true≢false}
use mathlib.Core.Logic.{◌≢◌, ◌⊎◌, inl, inr}
use Prim.Native.Nat.{ℕ, zero, suc, ◌≤◌}
use native.Mathlib.Omega.{arith}
use native.Mathlib.Decide.{ℕ_discrete}
use lib.Dec.{eqb}
use borrow.Author.Tests.{eq-eqb, lt-ltb, le-leb}
use Rattle.base_lists.proofs.ListLaws.{or_left, or_right}
use Rattle.model.specs.Store.{Chains, Snapshot}
use Rattle.model.specs.Seeing.{seen, visible, known, walk, first_visible, version_of}
use Rattle.model.proofs.Chained.{Chained, top}

-- from pointer p a snapshot finds q: the first version whose xmin it sees, or 0
pub data Finds (c : Chains) (v : Snapshot) : ℕ → ℕ → Type 0 where
  nothing : {p q : ℕ} → p ≡ 0 → q ≡ 0 → Finds c v p q
  here : {p q : ℕ} → 1 ≤ p → p ≤ c.used → seen v (c.xmin p) ≡ true → q ≡ p → Finds c v p q
  down : {p q : ℕ} → 1 ≤ p → p ≤ c.used → seen v (c.xmin p) ≡ false → Finds c v (c.next p) q → Finds c v p q

-- the version above, if there is one, is not seen
abbrev Reached : Chains → Snapshot → ℕ → Type 0
Reached c v p = (c.xmax p ≡ 0) ⊎ (seen v (c.xmax p) ≡ false)

visible-seen : (c : Chains) (v : Snapshot) (p : ℕ) → Reached c v p → visible c v p ≡ seen v (c.xmin p)
unfolding visible
visible-seen c v p h = rw (open-test h) (and-true (seen v (c.xmin p)))
  where
    open-test : Reached c v p → eqb (c.xmax p) 0 || not (seen v (c.xmax p)) ≡ true
    open-test (inl e) = or_left _ _ (eq-eqb _ 0 e)
    open-test (inr e) = or_right (eqb (c.xmax p) 0) _ (rw e)

    and-true : (b : Bool) → b && true ≡ b
    and-true true = refl
    and-true false = refl

known_in : (c : Chains) (p : ℕ) → 1 ≤ p → p ≤ c.used → known c p ≡ true
unfolding known
known_in c p l u = rw (lt-ltb 0 p l, le-leb p c.used u)

known-zero : (c : Chains) (p : ℕ) → p ≡ 0 → known c p ≡ false
unfolding known
known-zero c p e = rw e

pub walk-finds : (c : Chains) (v : Snapshot) → Chained c → (f p : ℕ) → p ≤ f → p ≤ c.used → (p ≢ 0 → Reached c v p) → Finds c v p (walk c v f p)
unfolding walk
walk-finds c v g zero p l u h = nothing {p = p} (omega arith) refl
walk-finds c v g (suc f) p l u h = elim (ℕ_discrete p 0) [
  | yes e ↦ rw (known-zero c p e) (nothing e refl)
  | no d ↦ rw (known_in c p (omega arith) u, visible-seen c v p (h d)) (go d (seen v (c.xmin p)) refl (walk-finds c v g f (c.next p) (below d) (inside d)))
]
  where
    below : p ≢ 0 → c.next p ≤ f
    below d = omega (arith, g.next-falls p (omega arith) u)

    inside : p ≢ 0 → c.next p ≤ c.used
    inside d = omega (arith, g.next-falls p (omega arith) u)

    above : p ≢ 0 → c.next p ≢ 0 → seen v (c.xmin p) ≡ false → Reached c v (c.next p)
    above d z e = inr (rw (g.closed-by p (omega arith) u z) e)

    go : p ≢ 0 → (b : Bool) → seen v (c.xmin p) ≡ b → ((c.next p ≢ 0 → Reached c v (c.next p)) → Finds c v (c.next p) (walk c v f (c.next p)))
        → Finds c v p (cond b p (walk c v f (c.next p)))
    go d true e ih = here {p = p} (omega arith) u e refl
    go d false e ih = down {p = p} (omega arith) u e (ih (λ z. above d z e))

pub version-finds : (c : Chains) (v : Snapshot) → Chained c → (r : ℕ) → Finds c v (c.head r) (version_of c v r)
unfolding first_visible
version-finds c v g r = walk-finds c v g (c.head r) (c.head r) (omega arith) (g.heads-in r) (λ z. inl (g.head-open r z))

-- one version is found
pub finds-one : (c : Chains) (v : Snapshot) (p q w : ℕ) → Finds c v p q → Finds c v p w → q ≡ w
finds-one c v p q w (nothing a b) (nothing e f) = b ∙ sym f
finds-one c v p q w (nothing a b) (here l u t f) = absurd (omega arith)
finds-one c v p q w (nothing a b) (down l u t n) = absurd (omega arith)
finds-one c v p q w (here l u t f) (nothing a b) = absurd (omega arith)
finds-one c v p q w (here l u t f) (here l' u' t' f') = f ∙ sym f'
finds-one c v p q w (here l u t f) (down l' u' t' n) = absurd (true≢false (sym t ∙ t'))
finds-one c v p q w (down l u t n) (nothing a b) = absurd (omega arith)
finds-one c v p q w (down l u t n) (here l' u' t' f) = absurd (true≢false (sym t' ∙ t))
finds-one c v p q w (down l u t n) (down l' u' t' n') = finds-one c v (c.next p) q w n n'

-- whoever sees the head of a row finds it
pub finds-head : (c : Chains) (v : Snapshot) → Chained c → (r : ℕ) → (1 ≤ c.head r → seen v (c.xmin (c.head r)) ≡ true) → version_of c v r ≡ c.head r
finds-head c v g r sees = finds-one c v (c.head r) _ _ (version-finds c v g r) (go (ℕ_discrete (c.head r) 0))
  where
    go : Dec (c.head r ≡ 0) → Finds c v (c.head r) (c.head r)
    go (yes e) = nothing e e
    go (no d) = here {p = c.head r} (omega arith) (g.heads-in r) (sees (omega arith)) refl

-- the walk of one who sees less goes on from where another's ends
pub finds-through : (c : Chains) (now v : Snapshot) → ((p : ℕ) → 1 ≤ p → p ≤ c.used → seen now (c.xmin p) ≡ false → seen v (c.xmin p) ≡ false)
    → (p q w : ℕ) → Finds c now p q → q ≢ 0 → Finds c v p w → Finds c v q w
finds-through c now v less p q w (nothing a b) z f = absurd (z b)
finds-through c now v less p q w (here l u t e) z f = rw e f
finds-through c now v less p q w (down l u t m) z (nothing a b) = absurd (omega arith)
finds-through c now v less p q w (down l u t m) z (here l' u' t' e) = absurd (true≢false (sym t' ∙ less p l u t))
finds-through c now v less p q w (down l u t m) z (down l' u' t' n) = finds-through c now v less (c.next p) q w m z n

-- what is found is in use, and seen
pub record Shown (c : Chains) (v : Snapshot) (q : ℕ) : Type 0 where
  pub from : 1 ≤ q
  pub in_use : q ≤ c.used
  pub seen-is : seen v (c.xmin q) ≡ true

pub finds-shown : (c : Chains) (v : Snapshot) (p q : ℕ) → Finds c v p q → q ≢ 0 → Shown c v q
finds-shown c v p q (nothing a b) z = absurd (z b)
finds-shown c v p q (here l u t f) z = rw f (record { from = l; in_use = u; seen-is = t })
finds-shown c v p q (down l u t n) z = finds-shown c v (c.next p) q n z

pub zero-finds : (c : Chains) (v : Snapshot) (p q : ℕ) → Finds c v p q → p ≡ 0 → q ≡ 0
zero-finds c v p q (nothing a b) e = b
zero-finds c v p q (here l u t f) e = absurd (omega arith)
zero-finds c v p q (down l u t n) e = absurd (omega arith)

-- its xmax is 0 or not seen
pub finds-open : (c : Chains) (v : Snapshot) → Chained c → (p q : ℕ) → Finds c v p q → q ≢ 0 → Reached c v p → Reached c v q
finds-open c v g p q (nothing a b) z h = absurd (z b)
finds-open c v g p q (here l u t f) z h = rw f h
finds-open c v g p q (down l u t n) z h = elim (ℕ_discrete (c.next p) 0) [
  | yes e ↦ absurd (z (zero-finds c v (c.next p) q n e))
  | no d ↦ finds-open c v g (c.next p) q n z (inr (rw (g.closed-by p l u d) t))
]

-- with xmax 0 it is where the walk began
pub finds-top : (c : Chains) (v : Snapshot) → Chained c → (p q : ℕ) → Finds c v p q → q ≢ 0 → c.xmax q ≡ 0 → q ≡ p
finds-top c v g p q (nothing a b) z h = absurd (z b)
finds-top c v g p q (here l u t f) z h = f
finds-top c v g p q (down l u t n) z h =
    let e : q ≡ c.next p = finds-top c v g (c.next p) q n z h in
    absurd (omega (arith, g.closed-by p l u (λ f. z (e ∙ f)), g.xmin-pos p l u, ap c.xmax e))

-- p stands in the chain of row r
pub data InChain (c : Chains) (r : ℕ) : ℕ → Type 0 where
  heads : {p : ℕ} → p ≡ c.head r → InChain c r p
  below : {p q : ℕ} → InChain c r q → 1 ≤ q → q ≤ c.used → p ≡ c.next q → InChain c r p

pub finds-chain : (c : Chains) (v : Snapshot) (r p q : ℕ) → Finds c v p q → InChain c r p → q ≢ 0 → InChain c r q
finds-chain c v r p q (nothing a b) h z = absurd (z b)
finds-chain c v r p q (here l u t f) h z = rw f h
finds-chain c v r p q (down l u t n) h z = finds-chain c v r (c.next p) q n (below h l u refl) z

-- who sees the same versions of a row finds the same
pub finds-alike : (c : Chains) (v w : Snapshot) (r : ℕ) → ((p : ℕ) → 1 ≤ p → p ≤ c.used → InChain c r p → seen w (c.xmin p) ≡ seen v (c.xmin p))
    → (p q : ℕ) → InChain c r p → Finds c v p q → Finds c w p q
finds-alike c v w r same p q i (nothing a b) = nothing a b
finds-alike c v w r same p q i (here l u t f) = here {p = p} {q = q} l u (same p l u i ∙ t) f
finds-alike c v w r same p q i (down l u t n) = down {p = p} {q = q} l u (same p l u i ∙ t) (finds-alike c v w r same (c.next p) q (below i l u refl) n)

-- versions of two rows are disjoint
pub chains-apart : (c : Chains) → Chained c → (q r p : ℕ) → InChain c q p → InChain c r p → p ≢ 0 → q ≡ r
chains-apart c g q r p (heads e) (heads f) z = g.one-head q r (λ y. z (e ∙ y)) (sym e ∙ f)
chains-apart c g q r p (heads e) (below {q = b} h l u f) z = absurd (top c g b q l u (λ y. z (f ∙ y)) (sym f ∙ e))
chains-apart c g q r p (below {q = a} h l u e) (heads f) z = absurd (top c g a r l u (λ y. z (e ∙ y)) (sym e ∙ f))
chains-apart c g q r p (below {q = a} h l u e) (below {q = b} k m w f) z =
    let d : a ≡ b = g.one-above a b l u m w (λ y. z (e ∙ y)) (sym e ∙ f) in
    chains-apart c g q r a h (rw d k) (λ y. omega arith)
