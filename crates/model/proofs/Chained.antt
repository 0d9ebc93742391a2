-- How versions hang together: pointers fall along a chain, a version's xmax is the xmin of the one above it, and no two rows share a version. Assumes nothing.
use mathlib.Core.Path.{◌≡◌, refl, sym, ap, ◌∙◌}
use mathlib.Core.List.{List, [], ◌∷◌}
use mathlib.Core.Logic.{◌≢◌}
use mathlib.Core.Option.{Option}
use Prim.Native.Nat.{ℕ, suc, ◌≤◌, ◌<◌}
use native.Mathlib.Omega.{arith}
use native.Mathlib.Decide.{ℕ_discrete}
use Rattle.base_lists.proofs.TableLaws.{update-elim, update_same, update_other}
use Rattle.model.specs.Store.{Chains, Store, Sizes, Txn, fresh}
use Rattle.model.specs.Seeing.{last_write}
use Rattle.model.specs.Steps.{push, push_all, version_rows, new_key, written_payload}
use Rattle.model.proofs.Move.{Move, stay, did-begin, did-mark, did-capture, did-collect, did-rows, did_write, did-prepare, did-install, did-end}
use Rattle.model.proofs.Move.{did-publish, did-abort}

pub record Chained (c : Chains) : Type 0 where
  pub next-falls : (p : ℕ) → 1 ≤ p → p ≤ c.used → c.next p < p
  pub heads-in : (r : ℕ) → c.head r ≤ c.used
  pub xmin-pos : (p : ℕ) → 1 ≤ p → p ≤ c.used → 1 ≤ c.xmin p
  -- a head's xmax is 0, and a version's is the xmin of the version above it
  pub head-open : (r : ℕ) → c.head r ≢ 0 → c.xmax (c.head r) ≡ 0
  pub closed-by : (q : ℕ) → 1 ≤ q → q ≤ c.used → c.next q ≢ 0 → c.xmax (c.next q) ≡ c.xmin q
  -- two rows have two heads, and no two versions stand on one
  pub one-head : (q r : ℕ) → c.head q ≢ 0 → c.head q ≡ c.head r → q ≡ r
  pub one-above : (p q : ℕ) → 1 ≤ p → p ≤ c.used → 1 ≤ q → q ≤ c.used → c.next p ≢ 0 → c.next p ≡ c.next q → p ≡ q

-- a head is not below another version
pub top : (c : Chains) → Chained c → (q r : ℕ) → 1 ≤ q → q ≤ c.used → c.next q ≢ 0 → c.next q ≢ c.head r
top c g q r l u z e = omega (arith, g.closed-by q l u z, g.xmin-pos q l u, g.head-open r (λ f. z (e ∙ f)), ap c.xmax e)

module _ (n r : ℕ) (k : Option ℕ) (payload : ℕ) (c : Chains) (g : Chained c) where
  abbrev c' : Chains
  c' = push n r k payload c

  -- the new pointer is no old one
  fresh-pointer : (p : ℕ) → p ≤ c.used → p ≢ suc c.used
  fresh-pointer p h e = omega arith

  new-open : c'.xmax (suc c.used) ≡ 0
  new-open = let d : suc c.used ≢ c.head r = λ e. omega (arith, g.heads-in r) in simp (update_other, update_same)

  old-xmax : (p : ℕ) → p ≤ c.used → p ≢ c.head r → c'.xmax p ≡ c.xmax p
  old-xmax p h d = let f : p ≢ suc c.used = fresh-pointer p h in simp update_other

  push-next : (p : ℕ) → 1 ≤ p → p ≤ c'.used → c'.next p < p
  push-next p l u = update-elim (◌< p) c.next (suc c.used) (c.head r) p (λ e. omega (arith, g.heads-in r))
      (λ d. omega (arith, g.next-falls p l (omega arith)))

  push-open : (q : ℕ) → c'.head q ≢ 0 → c'.xmax (c'.head q) ≡ 0
  push-open q = update-elim (λ h. h ≢ 0 → c'.xmax h ≡ 0) c.head r (suc c.used) q
      (λ e z. new-open)
      (λ d z. old-xmax (c.head q) (g.heads-in q) (λ e. d (g.one-head q r z e)) ∙ g.head-open q z)

  push-closed : (q : ℕ) → 1 ≤ q → q ≤ c'.used → c'.next q ≢ 0 → c'.xmax (c'.next q) ≡ c'.xmin q
  push-closed q l u = elim (ℕ_discrete q (suc c.used)) [
    | yes e ↦ simp (e, update_same) (λ z. refl)
    | no d ↦ rw (update_other c.next (suc c.used) (c.head r) q d, update_other c.xmin (suc c.used) n q d)
        (λ z. old-xmax (c.next q) (omega (arith, g.next-falls q l (omega arith))) (top c g q r l (omega arith) z) ∙ g.closed-by q l (omega arith) z)
  ]

  push-one-head : (p q : ℕ) → c'.head p ≢ 0 → c'.head p ≡ c'.head q → p ≡ q
  push-one-head p q z e = elim (ℕ_discrete p r) [
    | yes a ↦ elim (ℕ_discrete q r) [ yes b ↦ a ∙ sym b | no b ↦ absurd (omega (arith, simp (a, update_same, update_other) at e, g.heads-in q)) ]
    | no a ↦ elim (ℕ_discrete q r) [
      | yes b ↦ absurd (omega (arith, simp (b, update_same, update_other) at e, g.heads-in p))
      | no b ↦ g.one-head p q (simp update_other at z)
          (simp update_other at e)
    ]
  ]

  push-one-above : (p q : ℕ) → 1 ≤ p → p ≤ c'.used → 1 ≤ q → q ≤ c'.used → c'.next p ≢ 0 → c'.next p ≡ c'.next q → p ≡ q
  push-one-above p q lp up lq uq z e = elim (ℕ_discrete p (suc c.used)) [
    | yes a ↦ elim (ℕ_discrete q (suc c.used)) [
      | yes b ↦ a ∙ sym b
      | no b ↦ let f : c.head r ≡ c.next q = simp (a, update_same, update_other) at e in
          absurd (top c g q r lq (omega arith) (λ y. simp (a, update_same) at z (f ∙ y)) (sym f))
    ]
    | no a ↦ elim (ℕ_discrete q (suc c.used)) [
      | yes b ↦ absurd (top c g p r lp (omega arith) (simp update_other at z) (simp (b, update_same, update_other) at e))
      | no b ↦ g.one-above p q lp (omega arith) lq (omega arith) (simp update_other at z) (simp update_other at e)
    ]
  ]

  pub chained-push : 1 ≤ n → Chained c'
  chained-push pos = record {
    next-falls = push-next;
    heads-in = λ q. update-elim (◌≤ suc c.used) c.head r (suc c.used) q (λ e. omega arith) (λ d. omega (arith, g.heads-in q));
    xmin-pos = λ p l u. update-elim (1 ≤◌) c.xmin (suc c.used) n p (λ e. pos) (λ d. g.xmin-pos p l (omega arith));
    head-open = push-open;
    closed-by = push-closed;
    one-head = push-one-head;
    one-above = push-one-above;
  }

-- what each push keeps holds after all
pub push_all-all : (P : Chains → Type 0) (x : Txn) → ((r : ℕ) (k : Option ℕ) (payload : ℕ) (c : Chains) → P c → P (push x.number r k payload c))
    → (rs : List ℕ) (c : Chains) → P c → P (push_all x rs c)
unfolding push_all
push_all-all P x h [] c p = p
push_all-all P x h (r ∷ rs) c p = push_all-all P x h rs (push x.number r (new_key x r) (written_payload (last_write x.writes r)) c) (h r _ _ c p)

pub chained-move : (s s' : Store) {a : ℕ} → Chained s.chains → Move s a s' → Chained s'.chains
chained-move s s' = go s'
  where
    go : {a : ℕ} (s' : Store) → Chained s.chains → Move s a s' → Chained s'.chains
    go s' g (stay i) = g
    go s' g (did-begin i a b c d) = g
    go s' g (did-mark i a b) = g
    go s' g (did-capture i k a b c) = g
    go s' g (did-collect i a b) = g
    go s' g (did-rows i a b c) = g
    go s' g (did_write i w a b c d) = g
    go s' g (did-prepare i a b c) = g
    go s' g (did-install i a b) =
        push_all-all Chained (s.txns i) (λ r k payload c h. chained-push (s.txns i).number r k payload c h a)
        (version_rows s.sizes s.chains (s.txns i).writes) s.chains g
    go s' g (did-end i a b) = g
    go s' g (did-publish i a b) = g
    go s' g (did-abort i a b) = g

pub chained-fresh : (z : Sizes) (clock : ℕ) → Chained (fresh z clock).chains
chained-fresh z clock = record {
  next-falls = λ p l u. omega arith;
  heads-in = λ r. omega arith;
  xmin-pos = λ p l u. absurd (omega arith);
  head-open = λ r z. absurd (z refl);
  closed-by = λ q l u z. absurd (z refl);
  one-head = λ q r z e. absurd (z refl);
  one-above = λ p q lp up lq uq z e. absurd (z refl);
}
