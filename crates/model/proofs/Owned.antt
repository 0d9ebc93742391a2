-- Holding and claiming alike: a table of numbers, each 0 or the number of the live transaction that wants the entry. Assumes nothing.
use mathlib.Core.Path.{◌≡◌, refl, sym, ap, ◌∙◌}
use mathlib.Core.Bool.{Bool, true, false, not, ◌&&◌, true≢false}
use mathlib.Core.Logic.{◌≢◌, ◌⊎◌, inl, inr, ⊎_elim}
use mathlib.Core.List.{List}
use Prim.Native.Nat.{ℕ, ◌≤◌}
use native.Mathlib.Omega.{arith}
use native.Mathlib.Decide.{ℕ_discrete}
use lib.Dec.{eqb}
use borrow.Author.Tests.{eqb-true, eqb-false}
use Rattle.base_lists.specs.Table.{update, update_all}
use Rattle.base_lists.proofs.TableLaws.{update-elim, update_same, update_other, update_all-elim, cond-elim}
use Rattle.base_lists.specs.Lists.{Among}
use Rattle.base_lists.proofs.ListLaws.{member-among, among-member}
use Rattle.model.specs.Store.{Txn, no_txn, rank, phase_holding}
use Rattle.model.specs.Steps.{release}
use Rattle.model.specs.Refusals.{by_another}
use Rattle.model.specs.Seeing.{Live}
use Rattle.model.proofs.Numbers.{Numbers}

-- W says which entries a transaction wants: it has them all, and every entry that is not 0 is wanted by whom it names
pub record Owned (W : Txn → ℕ → Type 0) (h : ℕ → ℕ) (t : ℕ → Txn) : Type 0 where
  pub owns : (j b : ℕ) → W (t j) b → h b ≡ (t j).number
  pub owner : (b : ℕ) → h b ≢ 0 → (j : ℕ) × (h b ≡ (t j).number) × W (t j) b

pub release-elim : (P : ℕ → Type 0) (n : ℕ) (h : ℕ → ℕ) (b : ℕ) → (h b ≡ n → P 0) → (h b ≢ n → P (h b)) → P (release n h b)
unfolding release
release-elim P n h b p q = cond-elim P (eqb (h b) n) 0 (h b) (λ e. p (eqb-true _ _ e)) (λ e. q (eqb-false _ _ e))

pub not-another : (h : ℕ → ℕ) (n b : ℕ) → by_another h n b ≡ false → (h b ≡ 0) ⊎ (h b ≡ n)
unfolding by_another
not-another h n b = go (eqb (h b) 0) refl (eqb (h b) n) refl
  where
    go : (p : Bool) → eqb (h b) 0 ≡ p → (q : Bool) → eqb (h b) n ≡ q → not p && not q ≡ false → (h b ≡ 0) ⊎ (h b ≡ n)
    go true e q f = λ x. inl (eqb-true _ _ e)
    go false e true f = λ x. inr (eqb-true _ _ f)
    go false e false f = λ x. absurd (true≢false x)

-- the same wants, said otherwise
pub owned-wants : (U W : Txn → ℕ → Type 0) (h : ℕ → ℕ) (t : ℕ → Txn) → ((j b : ℕ) → U (t j) b → W (t j) b) → ((j b : ℕ) → W (t j) b → U (t j) b)
    → Owned U h t → Owned W h t
owned-wants U W h t to from g = record {
  owns = λ j b w. g.owns j b (from j b w);
  owner = λ b nz. let o = g.owner b nz in (o.0, o.1, to o.0 b o.2);
}

module _ (W : Txn → ℕ → Type 0) (busy : (y : Txn) (b : ℕ) → W y b → phase_holding ≤ rank y.phase) (h : ℕ → ℕ) (clock : ℕ) (t : ℕ → Txn) (n : Numbers clock t)
    (g : Owned W h t) where
  pub wanter : (j b : ℕ) → W (t j) b → Live (t j)
  wanter j b w = elim (ℕ_discrete (t j).number 0) [ yes e ↦ absurd (omega (arith, n.idle j e, busy (t j) b w)) | no d ↦ omega arith ]

  -- two that want one entry are one
  pub one-wanter : (j k b : ℕ) → W (t j) b → W (t k) b → j ≡ k
  one-wanter j k b v w = n.distinct j k (wanter j b v) (sym (g.owns j b v) ∙ g.owns k b w)

  -- who wants nothing has nothing
  pub has-none : (i b : ℕ) → Live (t i) → (W (t i) b → ⊥) → h b ≢ (t i).number
  has-none i b l no-want e =
      let o = g.owner b (λ z. omega arith) in
      let same : o.0 ≡ i = sym (n.distinct i o.0 l (sym e ∙ o.1)) in
      no-want (rw same at o.2)

  pub free : (i b : ℕ) → Live (t i) → (W (t i) b → ⊥) → by_another h (t i).number b ≡ false → h b ≡ 0
  free i b l no-want e = ⊎_elim (λ z. z) (λ f. absurd (has-none i b l no-want f)) (not-another h (t i).number b e)

  -- one place changes
  owned-set : (h' : ℕ → ℕ) (i : ℕ) (x : Txn)
      → ((j b : ℕ) → j ≢ i → W (t j) b → h b ≡ (t j).number → h' b ≡ h b)
      → ((b : ℕ) → W x b → h' b ≡ x.number)
      → ((b : ℕ) → h' b ≢ 0 → ((h' b ≡ x.number) × W x b) ⊎ ((h' b ≡ h b) × (W (t i) b → ⊥)))
      → Owned W h' (update t i x)
  owned-set h' i x others mine whose = record {
    owns = λ j b. update-elim (λ y. W y b → h' b ≡ y.number) t i x j (λ e w. mine b w) (λ d w. others j b d w (g.owns j b w) ∙ g.owns j b w);
    owner = λ b nz. by-case b nz (whose b nz);
  }
    where
      at_other : (b j : ℕ) → h' b ≡ h b → h b ≡ (t j).number → W (t j) b → j ≢ i → (k : ℕ) × (h' b ≡ (update t i x k).number) × W (update t i x k) b
      at_other b j e f w d = (j, rw (update_other t i x j d) (e ∙ f), rw (update_other t i x j d) w)

      by-case : (b : ℕ) → h' b ≢ 0 → ((h' b ≡ x.number) × W x b) ⊎ ((h' b ≡ h b) × (W (t i) b → ⊥))
          → (j : ℕ) × (h' b ≡ (update t i x j).number) × W (update t i x j) b
      by-case b nz (inl m) = (i, rw update_same m.0, rw update_same m.1)
      by-case b nz (inr m) =
          let old = g.owner b (λ z. nz (m.0 ∙ z)) in
          at_other b old.0 m.0 old.1 old.2 (λ e. m.1 (rw e at old.2))

  -- one that wants nothing becomes another that wants nothing
  pub owned-quiet : (i : ℕ) (x : Txn) → ((b : ℕ) → W (t i) b → ⊥) → ((b : ℕ) → W x b → ⊥) → Owned W h (update t i x)
  owned-quiet i x p q = owned-set h i x (λ j b d w e. refl) (λ b w. absurd (q b w)) (λ b nz. inr (refl, p b))

  -- one goes on wanting what it wants
  pub owned-same : (i : ℕ) (x : Txn) → x.number ≡ (t i).number → ((b : ℕ) → W x b → W (t i) b) → ((b : ℕ) → W (t i) b → W x b) → Owned W h (update t i x)
  owned-same i x e from to = record {
    owns = λ j b. update-elim (λ y. W y b → h b ≡ y.number) t i x j (λ f w. g.owns i b (from b w) ∙ sym e) (λ d w. g.owns j b w);
    owner = λ b nz. let o = g.owner b nz in go b o.0 o.1 o.2 (ℕ_discrete o.0 i);
  }
    where
      go : (b j : ℕ) → h b ≡ (t j).number → W (t j) b → Dec (j ≡ i) → (k : ℕ) × (h b ≡ (update t i x k).number) × W (update t i x k) b
      go b j f w (yes d) = (i, rw update_same (rw d at f ∙ sym e), rw update_same (to b (rw d at w)))
      go b j f w (no d) = (j, rw (update_other t i x j d) f, rw (update_other t i x j d) w)

  -- what carries the own number is freed, and the record ends
  pub owned-release : (i : ℕ) → Live (t i) → Owned W (release (t i).number h) (update t i no_txn)
  owned-release i l = owned-set (release (t i).number h) i no_txn
      (λ j b d w e. release-elim (λ v. v ≡ h b) (t i).number h b (λ f. absurd (d (sym (n.distinct i j l (sym f ∙ e))))) (λ f. refl))
      (λ b w. absurd (omega (arith, busy no_txn b w)))
      (λ b. release-elim (λ v. v ≢ 0 → ((v ≡ 0) × W no_txn b) ⊎ ((v ≡ h b) × (W (t i) b → ⊥))) (t i).number h b
      (λ f q. absurd (q refl))
      (λ f q. inr (refl, λ w. f (g.owns i b w))))

  -- free entries are taken
  pub owned-take : (i : ℕ) (x : Txn) (bs : List ℕ) → x.number ≡ (t i).number → ((b : ℕ) → W (t i) b → ⊥) → ((b : ℕ) → Among b bs → h b ≡ 0)
      → ((b : ℕ) → W x b → Among b bs) → ((b : ℕ) → Among b bs → W x b) → Owned W (update_all h bs (t i).number) (update t i x)
  owned-take i x bs e none_yet frees from to = owned-set (update_all h bs (t i).number) i x
      (λ j b d w f. update_all-elim (λ v. v ≡ h b) h bs (t i).number b (λ m. absurd (omega (arith, wanter j b w, frees b (member-among b bs m)))) (λ m. refl))
      (λ b w. update_all-elim (λ v. v ≡ x.number) h bs (t i).number b (λ m. sym e) (λ m. absurd (true≢false (sym (among-member b bs (from b w)) ∙ m))))
      (λ b. update_all-elim (λ v. v ≢ 0 → ((v ≡ x.number) × W x b) ⊎ ((v ≡ h b) × (W (t i) b → ⊥))) h bs (t i).number b
      (λ m q. inl (sym e, to b (member-among b bs m)))
      (λ m q. inr (refl, none_yet b)))

  -- one free entry is taken
  pub owned-one : (i : ℕ) (x : Txn) (c : ℕ) → x.number ≡ (t i).number → ((b : ℕ) → W (t i) b → ⊥) → h c ≡ 0 → ((b : ℕ) → W x b → b ≡ c) → W x c
      → Owned W (update h c (t i).number) (update t i x)
  owned-one i x c e none_yet z from to = owned-set (update h c (t i).number) i x
      (λ j b d w f. update_other h c (t i).number b (λ y. omega (arith, wanter j b w, ap h y)))
      (λ b w. rw (from b w, update_same) (sym e))
      (λ b. update-elim (λ v. v ≢ 0 → ((v ≡ x.number) × W x b) ⊎ ((v ≡ h b) × (W (t i) b → ⊥))) h c (t i).number b
      (λ f q. inl (sym e, rw f to))
      (λ f q. inr (refl, none_yet b)))

  -- the one entry that was wanted is freed
  pub owned-drop : (i : ℕ) (x : Txn) (c : ℕ) → W (t i) c → ((b : ℕ) → W (t i) b → b ≡ c) → ((b : ℕ) → W x b → ⊥) → Owned W (update h c 0) (update t i x)
  owned-drop i x c has only none-now = owned-set (update h c 0) i x
      (λ j b d w f. update_other h c 0 b (λ y. d (one-wanter j i b w (rw y has))))
      (λ b w. absurd (none-now b w))
      (λ b. update-elim (λ v. v ≢ 0 → ((v ≡ x.number) × W x b) ⊎ ((v ≡ h b) × (W (t i) b → ⊥))) h c 0 b
      (λ f q. absurd (q refl))
      (λ f q. inr (refl, λ w. f (only b w))))
