-- What an install makes of the versions, entry by entry. Assumes nothing.
use mathlib.Core.Path.{◌≡◌, refl, sym, ap, ◌∙◌}
use mathlib.Core.Logic.{◌≢◌, ◌⊎◌, inl, inr, ⊎_elim}
use mathlib.Core.List.{List, [], ◌∷◌}
use Prim.Native.Nat.{ℕ, suc, ◌≤◌, ◌<◌}
use native.Mathlib.Omega.{arith}
use native.Mathlib.Decide.{ℕ_discrete}
use Rattle.base_lists.specs.Table.{update}
use Rattle.base_lists.proofs.TableLaws.{update-elim, update_same, update_other}
use Rattle.base_lists.specs.Lists.{Among, Rising}
use Rattle.base_lists.proofs.ListLaws.{rising-above}
use Rattle.model.specs.Store.{Chains, Txn}
use Rattle.model.specs.Seeing.{last_write}
use Rattle.model.specs.Steps.{push, push_all, new_key, written_payload}

-- row r is headed by a new version, made of its last write by x, over the head that it had in c
pub record NewHead (x : Txn) (c c' : Chains) (r : ℕ) : Type 0 where
  pub above : c.used < c'.head r
  pub in_use : c'.head r ≤ c'.used
  pub xmin-is : c'.xmin (c'.head r) ≡ x.number
  pub xmax-is : c'.xmax (c'.head r) ≡ 0
  pub key-is : c'.key (c'.head r) ≡ new_key x r
  pub payload-is : c'.payload (c'.head r) ≡ written_payload (last_write x.writes r)
  pub next-is : c'.next (c'.head r) ≡ c.head r

-- an old version ends at n where it headed one of the rows rs, and else its xmax is as it was
abbrev pub EndsOr : ℕ → List ℕ → Chains → Chains → ℕ → Type 0
EndsOr n rs c c' p = ((c'.xmax p ≡ n) × ((r : ℕ) × Among r rs × (c.head r ≡ p))) ⊎ ((c'.xmax p ≡ c.xmax p) × ((r : ℕ) → Among r rs → c.head r ≢ p))

-- from c the rows rs, written by x, have led to c': old versions are as found but for their xmax, each row has a new head above them
pub record Grown (x : Txn) (rs : List ℕ) (c c' : Chains) : Type 0 where
  pub used-up : c.used ≤ c'.used
  pub xmin-old : (q : ℕ) → q ≤ c.used → c'.xmin q ≡ c.xmin q
  pub next-old : (q : ℕ) → q ≤ c.used → c'.next q ≡ c.next q
  pub key-old : (q : ℕ) → q ≤ c.used → c'.key q ≡ c.key q
  pub payload-old : (q : ℕ) → q ≤ c.used → c'.payload q ≡ c.payload q
  pub xmax-old : (q : ℕ) → q ≤ c.used → EndsOr x.number rs c c' q
  pub head-old : (r : ℕ) → (Among r rs → ⊥) → c'.head r ≡ c.head r
  pub head-new : (r : ℕ) → Among r rs → NewHead x c c' r
  pub heads-rise : (q r : ℕ) → Among q rs → Among r rs → q < r → c'.head q < c'.head r
  pub made : (q : ℕ) → c.used < q → q ≤ c'.used → (r : ℕ) × Among r rs × (c'.head r ≡ q)

module _ (x : Txn) (r : ℕ) (rs : List ℕ) (c c' : Chains) (heads-in : (q : ℕ) → Among q (r ∷ rs) → c.head q ≤ c.used) (new : (q : ℕ) → Among q rs → suc r ≤ q)
    (g : Grown x rs (push x.number r (new_key x r) (written_payload (last_write x.writes r)) c) c') where
  -- the first row pushed is headed by the first new pointer
  first_head : c'.head r ≡ suc c.used
  first_head = g.head-old r (λ m. omega (arith, new r m)) ∙ update_same c.head r (suc c.used)

  -- a later row keeps its head
  later-head : (q : ℕ) → Among q rs → update c.head r (suc c.used) q ≡ c.head q
  later-head q m = update_other c.head r (suc c.used) q (λ e. omega (arith, new q m))

  -- the first new version is nobody's old head
  first-open : c'.xmax (suc c.used) ≡ 0
  first-open = ⊎_elim
      (λ w. absurd (omega (arith, w.1.2, later-head w.1.0 w.1.1, heads-in w.1.0 (inr w.1.1))))
      (λ w. w.0 ∙ (update_other _ (c.head r) x.number (suc c.used) (λ e. omega (arith, heads-in r (inl refl)))
      ∙ update_same c.xmax (suc c.used) 0))
      (g.xmax-old (suc c.used) (omega arith))

  ends : (q : ℕ) → q ≤ c.used → EndsOr x.number (r ∷ rs) c c' q
  ends q l = ⊎_elim
      (λ w. inl (w.0, (w.1.0, inr w.1.1, sym (later-head w.1.0 w.1.1) ∙ w.1.2)))
      (λ w. elim (ℕ_discrete q (c.head r)) [
        | yes e ↦ inl (
          w.0 ∙ (ap (update (update c.xmax (suc c.used) 0) (c.head r) x.number) e ∙ update_same _ (c.head r) x.number),
          (r, inl refl, sym e),
        )
        | no d ↦ inr (
          w.0 ∙ (update_other _ (c.head r) x.number q d ∙ update_other c.xmax (suc c.used) 0 q (λ e. omega arith)),
          λ p m. ⊎_elim (λ e f. d (sym f ∙ ap c.head e)) (λ n f. w.1 p n (later-head p n ∙ f)) m,
        )
      ])
      (g.xmax-old q (omega arith))

  rise : (q p : ℕ) → Among q (r ∷ rs) → Among p (r ∷ rs) → q < p → c'.head q < c'.head p
  rise q p (inl a) (inl b) l = absurd (omega arith)
  rise q p (inl a) (inr b) l = rw (a, first_head) (g.head-new p b).above
  rise q p (inr a) (inl b) l = absurd (omega (arith, new q a))
  rise q p (inr a) (inr b) l = g.heads-rise q p a b l

  first-new : NewHead x c c' r
  first-new = record {
    above = omega (arith, first_head);
    in_use = omega (arith, first_head, g.used-up);
    xmin-is = ap c'.xmin first_head ∙ (g.xmin-old (suc c.used) (omega arith) ∙ update_same c.xmin (suc c.used) x.number);
    xmax-is = ap c'.xmax first_head ∙ first-open;
    payload-is = ap c'.payload first_head
        ∙ (g.payload-old (suc c.used) (omega arith) ∙ update_same c.payload (suc c.used) (written_payload (last_write x.writes r)));
    key-is = ap c'.key first_head ∙ (g.key-old (suc c.used) (omega arith) ∙ update_same c.key (suc c.used) (new_key x r));
    next-is = ap c'.next first_head ∙ (g.next-old (suc c.used) (omega arith) ∙ update_same c.next (suc c.used) (c.head r));
  }

  later-new : (q : ℕ) → Among q rs → NewHead x c c' q
  later-new q m =
      let h = g.head-new q m in
      record {
        above = omega (arith, h.above);
        in_use = h.in_use;
        xmin-is = h.xmin-is;
        xmax-is = h.xmax-is;
        key-is = h.key-is;
        payload-is = h.payload-is;
        next-is = h.next-is ∙ later-head q m;
      }

  pub grown-first : Grown x (r ∷ rs) c c'
  grown-first = record {
    used-up = omega (arith, g.used-up);
    xmin-old = λ q l. g.xmin-old q (omega arith) ∙ update_other c.xmin _ _ q (λ e. omega arith);
    next-old = λ q l. g.next-old q (omega arith) ∙ update_other c.next _ _ q (λ e. omega arith);
    key-old = λ q l. g.key-old q (omega arith) ∙ update_other c.key _ _ q (λ e. omega arith);
    payload-old = λ q l. g.payload-old q (omega arith) ∙ update_other c.payload _ _ q (λ e. omega arith);
    xmax-old = ends;
    heads-rise = rise;
    head-old = λ q no_row. g.head-old q (λ m. no_row (inr m)) ∙ update_other c.head r (suc c.used) q (λ e. no_row (inl e));
    head-new = λ q m. ⊎_elim (λ e. rw e first-new) (λ n. later-new q n) m;
    made = λ q l u. elim (ℕ_discrete q (suc c.used)) [
      | yes e ↦ (r, inl refl, first_head ∙ sym e)
      | no d ↦ let w = g.made q (omega arith) u in (w.0, inr w.1, w.2)
    ];
  }

pub grown : (x : Txn) (k : ℕ) (rs : List ℕ) (c : Chains) → ((r : ℕ) → Among r rs → c.head r ≤ c.used) → Rising k rs → Grown x rs c (push_all x rs c)
unfolding push_all
grown x k [] c h o = record {
  used-up = omega arith;
  xmin-old = λ q l. refl;
  next-old = λ q l. refl;
  key-old = λ q l. refl;
  payload-old = λ q l. refl;
  xmax-old = λ q l. inr (refl, λ r m. absurd m);
  heads-rise = λ q r m. absurd m;
  head-old = λ r m. refl;
  head-new = λ r m. absurd m;
  made = λ q l u. absurd (omega arith);
}
grown x k (r ∷ rs) c h o = grown-first x r rs c _ h (rising-above (suc r) rs o.1)
    (grown x (suc r) rs (push x.number r (new_key x r) (written_payload (last_write x.writes r)) c)
    (λ q m. update-elim (◌≤ suc c.used) c.head r (suc c.used) q (λ e. omega arith) (λ d. omega (arith, h q (inr m))))
    o.1)
