-- Who made a version, and what is posted: a live maker has installed and its versions head its pending rows; a row is posted with the key at its head, or with
-- the key before it while its maker is unpublished. Assumes nothing.
use mathlib.Core.Path.{◌≡◌, refl, sym, ap, ◌∙◌}
use mathlib.Core.Bool.{Bool, true, false, true≢false}
use mathlib.Core.Logic.{◌≢◌, ◌⊎◌, inl, inr, ⊎_elim}
use mathlib.Core.Option.{Option, none}
use mathlib.Core.List.{List}
use Prim.Native.Nat.{ℕ, ◌≤◌, ◌<◌}
use native.Mathlib.Omega.{arith}
use native.Mathlib.Decide.{ℕ_discrete}
use lib.Dec.{ltb}
use borrow.Author.Tests.{ltb-true, ltb-false}
use Rattle.base_lists.specs.Lists.{member}
use Rattle.base_lists.specs.Table.{update}
use Rattle.base_lists.proofs.TableLaws.{update-elim, update_same, update_other}
use Rattle.base_lists.proofs.ListLaws.{member-among, among-member, pick-rising}
use Rattle.model.specs.Store.{Sizes, Chains, Installed, Ended, Txn, Store, no_txn, fresh, rank, phase_prepared, phase_installed, phase_ended}
use Rattle.model.specs.Seeing.{key_at, last_write, Live}
use Rattle.model.specs.Steps.{with_phase, pending_rows, old_key, new_key, written_payload, installed, published, version_rows}
use Rattle.model.specs.Holding.{Writes, Gets, Made, ErasesNothing}
use Rattle.model.proofs.Move.{Move, stay, did-begin, did-mark, did-capture, did-collect, did-rows, did_write, did-prepare, did-install, did-end}
use Rattle.model.proofs.Move.{did-publish, did-abort}
use Rattle.model.proofs.Chained.{Chained}
use Rattle.model.proofs.Numbers.{Numbers, BelowAt}
use Rattle.model.proofs.SeeingLaws.{key_at-zero, key_at-key, key_at-same}
use Rattle.model.proofs.Holders.{HoldersAt, one-claim, posted-kept, repost-elim}
use Rattle.model.proofs.Made.{gets-writes, made-writes, made-head, which-made, gets-or-not, nothing-got}
use Rattle.model.proofs.Grown.{Grown, grown}

-- a row that x has installed a version of and not published
pub record Mine (c : Chains) (posted : ℕ → Option ℕ) (x : Txn) (r : ℕ) : Type 0 where
  pub head-pos : 1 ≤ c.head r
  pub xmin-is : c.xmin (c.head r) ≡ x.number
  pub key-is : key_at c (c.head r) ≡ new_key x r
  pub payload-is : c.payload (c.head r) ≡ written_payload (last_write x.writes r)
  pub before : key_at c (c.next (c.head r)) ≡ posted r

pub record Written (z : Sizes) (c : Chains) (posted : ℕ → Option ℕ) (t : ℕ → Txn) : Type 0 where
  pub mine : (j r : ℕ) → Live (t j) → phase_installed ≤ rank (t j).phase → Made z c (t j) r → Mine c posted (t j) r
  pub made-or-nothing : (j r : ℕ) → Live (t j) → phase_installed ≤ rank (t j).phase → Writes z (t j) r → Made z c (t j) r ⊎ ErasesNothing c (t j) r
  pub made : (q j : ℕ) → 1 ≤ q → q ≤ c.used → Live (t j) → c.xmin q ≡ (t j).number
      → (phase_installed ≤ rank (t j).phase) × ((r : ℕ) × Made z c (t j) r × (c.head r ≡ q))
  pub posts : (r : ℕ) → (posted r ≡ key_at c (c.head r)) ⊎ ((j : ℕ) × Live (t j) × (phase_installed ≤ rank (t j).phase) × Made z c (t j) r)

abbrev pub WrittenAt : Store → Type 0
WrittenAt s = Written s.sizes s.chains s.index.posted s.txns

-- one place changes that has no version before or after
written-early : (z : Sizes) (c : Chains) (posted : ℕ → Option ℕ) (t : ℕ → Txn) (i : ℕ) (x : Txn) → (Live (t i) → rank (t i).phase < phase_installed)
    → rank x.phase < phase_installed
    → ((q : ℕ) → 1 ≤ q → q ≤ c.used → Live x → c.xmin q ≡ x.number → ⊥) → Written z c posted t → Written z c posted (update t i x)
written-early z c posted t i x a b no-version g = record {
  mine = λ j r. update-elim (λ y. Live y → phase_installed ≤ rank y.phase → Made z c y r → Mine c posted y r) t i x j (λ e l h. absurd (omega arith))
      (λ d l h w. g.mine j r l h w);
  made-or-nothing = λ j r. update-elim (λ y. Live y → phase_installed ≤ rank y.phase → Writes z y r → Made z c y r ⊎ ErasesNothing c y r) t i x j
      (λ e l h. absurd (omega arith)) (λ d l h w. g.made-or-nothing j r l h w);
  made = λ q j p u. update-elim (λ y. Live y → c.xmin q ≡ y.number → (phase_installed ≤ rank y.phase) × ((r : ℕ) × Made z c y r × (c.head r ≡ q))) t i x j
      (λ e l f. absurd (no-version q p u l f)) (λ d l f. g.made q j p u l f);
  posts = λ r. ⊎_elim inl (λ o. inr (other r o.0 o.1 o.2 o.3)) (g.posts r);
}
  where
    other : (r j : ℕ) → Live (t j) → phase_installed ≤ rank (t j).phase → Made z c (t j) r
        → (k : ℕ) × Live (update t i x k) × (phase_installed ≤ rank (update t i x k).phase) × Made z c (update t i x k) r
    other r j l h w =
        let d : j ≢ i = λ e. omega (arith, rw e at h, a (rw e at l)) in
        (j, rw (update_other t i x j d) l, rw (update_other t i x j d) h, rw (update_other t i x j d) w)

-- a transaction that has no version yet goes on
written_on : (z : Sizes) (c : Chains) (posted : ℕ → Option ℕ) (t : ℕ → Txn) (i : ℕ) (x : Txn) → x.number ≡ (t i).number → rank (t i).phase < phase_installed
    → rank x.phase < phase_installed → Written z c posted t → Written z c posted (update t i x)
written_on z c posted t i x e a b g = written-early z c posted t i x (λ l. a) b (λ q p u l f. omega (arith, (g.made q i p u (omega arith) (f ∙ e)).0)) g

-- the posted key of a row that is claimed by a Prepared transaction, or by none, is the old one
pub posted-old : (s : Store) → Numbers s.clock s.txns → HoldersAt s → WrittenAt s → (i r : ℕ) → rank (s.txns i).phase ≡ phase_prepared
    → Writes s.sizes (s.txns i) r → s.index.posted r ≡ old_key s.chains r
posted-old s n h g i r a w =
    ⊎_elim (λ e. e) (λ o. absurd
    (omega (
      arith,
      rw (one-claim s i n h o.0 i r (omega (arith, o.2), made-writes s.sizes s.chains (s.txns o.0) r o.3) (omega arith, w))
          at o.2,
    ))) (g.posts r)

pub posted-free : (s : Store) → Numbers s.clock s.txns → HoldersAt s → WrittenAt s → (r : ℕ) → s.held.claim r ≡ 0
    → s.index.posted r ≡ old_key s.chains r
posted-free s n h g r z =
    ⊎_elim (λ e. e) (λ o. absurd
    (omega (arith, o.1, h.claims.owns o.0 r (omega (arith, o.2), made-writes s.sizes s.chains (s.txns o.0) r o.3)))) (g.posts r)

-- an installed row is headed by a version of its own; or it erases nothing, and no key is posted, which is the new key
module _ (s : Store) (n : Numbers s.clock s.txns) (h : HoldersAt s) (g : WrittenAt s) (i r : ℕ) (l : Live (s.txns i))
    (a : phase_installed ≤ rank (s.txns i).phase) (w : Writes s.sizes (s.txns i) r) where
  pub posted-either : Made s.sizes s.chains (s.txns i) r ⊎ (ErasesNothing s.chains (s.txns i) r × (s.index.posted r ≡ none))
  posted-either = ⊎_elim inl
      (λ q. ⊎_elim (λ e. inr (q, e ∙ q.0))
      (λ o. inl (rw (one-claim s i n h o.0 i r (omega (arith, o.2), made-writes s.sizes s.chains (s.txns o.0) r o.3)
      (omega arith, w)) at o.3)) (g.posts r))
      (g.made-or-nothing i r l a w)

  pub posted-new : (Made s.sizes s.chains (s.txns i) r → ⊥) → s.index.posted r ≡ new_key (s.txns i) r
  posted-new no_row = ⊎_elim (λ m. absurd (no_row m)) (λ q. q.1 ∙ sym q.0.1) posted-either

module _ (s : Store) (i : ℕ) (n : Numbers s.clock s.txns) (h : HoldersAt s) (g : WrittenAt s) (l : Live (s.txns i)) where
  written-end : rank (s.txns i).phase ≡ phase_installed → Written s.sizes s.chains s.index.posted (update s.txns i (with_phase (s.txns i) Ended))
  written-end a = let x = with_phase (s.txns i) Ended in record {
    made-or-nothing = λ j r. update-elim
        (λ y. Live y → phase_installed ≤ rank y.phase → Writes s.sizes y r → Made s.sizes s.chains y r ⊎ ErasesNothing s.chains y r)
        s.txns i x j (λ e v b w. g.made-or-nothing i r v (omega arith) w) (λ d v b w. g.made-or-nothing j r v b w);
    mine = λ j r. update-elim (λ y. Live y → phase_installed ≤ rank y.phase → Made s.sizes s.chains y r → Mine s.chains s.index.posted y r)
        s.txns i x j
        (λ e v b w. let m = g.mine i r v (omega arith) w in
        record { head-pos = m.head-pos; xmin-is = m.xmin-is; key-is = m.key-is; payload-is = m.payload-is; before = m.before })
        (λ d v b w. g.mine j r v b w);
    made = λ q j p u. update-elim (λ y. Live y → s.chains.xmin q ≡ y.number → (phase_installed ≤ rank y.phase) ×
        ((r : ℕ) × Made s.sizes s.chains y r × (s.chains.head r ≡ q))) s.txns i x j
        (λ e v f. (omega arith, (g.made q i p u v f).1))
        (λ d v f. g.made q j p u v f);
    posts = λ r. ⊎_elim inl (λ o. inr (on r o.0 o.1 o.2 o.3 (ℕ_discrete o.0 i))) (g.posts r);
  }
    where
      on : (r j : ℕ) → Live (s.txns j) → phase_installed ≤ rank (s.txns j).phase → Made s.sizes s.chains (s.txns j) r → Dec (j ≡ i)
          → let t = update s.txns i (with_phase (s.txns i) Ended) in (k : ℕ) × Live (t k) × (phase_installed ≤ rank (t k).phase) × Made s.sizes
          s.chains (t k) r
      on r j v b w (yes e) = (i, rw update_same l, rw update_same (omega arith), rw update_same (rw e at w))
      on r j v b w (no d) = (j, rw (update_other s.txns i _ j d) v, rw (update_other s.txns i _ j d) b, rw (update_other s.txns i _ j d) w)

  written-publish : rank (s.txns i).phase ≡ phase_ended → WrittenAt (published s i)
  written-publish a = record {
    made-or-nothing = λ j r. update-elim
        (λ y. Live y → phase_installed ≤ rank y.phase → Writes s.sizes y r → Made s.sizes s.chains y r ⊎ ErasesNothing s.chains y r)
        s.txns i no_txn j (λ e v b w. absurd (omega arith)) (λ d v b w. g.made-or-nothing j r v b w);
    mine = λ j r. update-elim (λ y. Live y → phase_installed ≤ rank y.phase → Made s.sizes s.chains y r → Mine s.chains
        (published s i).index.posted y r) s.txns i no_txn j
        (λ e v b w. absurd (omega arith))
        (λ d v b w. let m = g.mine j r v b w in
        record {
          head-pos = m.head-pos;
          xmin-is = m.xmin-is;
          key-is = m.key-is;
          payload-is = m.payload-is;
          before = m.before ∙ sym (posted-kept s i n h (omega arith) j r d (omega arith) (made-writes s.sizes s.chains (s.txns j) r w));
        });
    made = λ q j p u. update-elim (λ y. Live y → s.chains.xmin q ≡ y.number → (phase_installed ≤ rank y.phase) ×
        ((r : ℕ) × Made s.sizes s.chains y r × (s.chains.head r ≡ q))) s.txns i no_txn j
        (λ e v f. absurd (omega arith))
        (λ d v f. g.made q j p u v f);
    posts = λ r. repost-elim (λ o. (o ≡ key_at s.chains (s.chains.head r)) ⊎
        ((j : ℕ) × Live ((published s i).txns j) × (phase_installed ≤ rank ((published s i).txns j).phase) × Made s.sizes s.chains
        ((published s i).txns j) r)) (s.txns i) (pending_rows s.sizes (s.txns i).writes) s.index.posted r
        (λ w. inl (⊎_elim (λ m. sym (g.mine i r l (omega arith) m).key-is) (λ e. e.1 ∙ sym e.0) (g.made-or-nothing i r l (omega arith) w)))
        (λ no_row. ⊎_elim inl (λ o. inr (on r no_row o.0 o.1 o.2 o.3)) (g.posts r));
  }
    where
      on : (r : ℕ) → (Writes s.sizes (s.txns i) r → ⊥) → (j : ℕ) → Live (s.txns j) → phase_installed ≤ rank (s.txns j).phase
          → Made s.sizes s.chains (s.txns j) r
          → let t = update s.txns i no_txn in (k : ℕ) × Live (t k) × (phase_installed ≤ rank (t k).phase) × Made s.sizes s.chains (t k) r
      on r no_row j v b w =
          let d : j ≢ i = λ e. no_row (made-writes s.sizes s.chains (s.txns i) r (rw e at w)) in
          (j, rw (update_other s.txns i no_txn j d) v, rw (update_other s.txns i no_txn j d) b, rw (update_other s.txns i no_txn j d) w)

-- a pointer was there before, or the install made it
pub old-or-new : (old q : ℕ) → (q ≤ old) ⊎ (old < q)
old-or-new old q = go (ltb old q) refl
  where
    go : (b : Bool) → ltb old q ≡ b → (q ≤ old) ⊎ (old < q)
    go true e = inr (ltb-true _ _ e)
    go false e = inl (ltb-false _ _ e)

-- a key that was there is there
pub key_at-grown : (x : Txn) (rs : List ℕ) (c c' : Chains) → Grown x rs c c' → (p : ℕ) → p ≤ c.used → key_at c' p ≡ key_at c p
key_at-grown x rs c c' gr p u = key_at-same c' c p (λ z. gr.key-old p u)

pub installs : (s : Store) (i : ℕ) → Chained s.chains
    → Grown (s.txns i) (version_rows s.sizes s.chains (s.txns i).writes) s.chains (installed s i).chains
unfolding version_rows
installs s i ch = grown (s.txns i) 0 (version_rows s.sizes s.chains (s.txns i).writes) s.chains (λ r m. ch.heads-in r)
    (pick-rising _ 0 s.sizes.rows)

-- a row that gets a version is headed by it; any other is headed as it was
module _ (s : Store) (i : ℕ) (ch : Chained s.chains) (r : ℕ) where
  pub made-new : Gets s.sizes s.chains (s.txns i) r → Made s.sizes (installed s i).chains (s.txns i) r
  made-new m = let new = (installs s i ch).head-new r m in
      which-made s.sizes (installed s i).chains (s.txns i) r (gets-writes s.sizes s.chains (s.txns i) r m) (omega (arith, new.above))
      new.xmin-is

  module _ (no : Gets s.sizes s.chains (s.txns i) r → ⊥) (y : Txn) where
    same-xmin : (installed s i).chains.xmin ((installed s i).chains.head r) ≡ s.chains.xmin (s.chains.head r)
    same-xmin = ap (installed s i).chains.xmin ((installs s i ch).head-old r no) ∙ (installs s i ch).xmin-old (s.chains.head r) (ch.heads-in r)

    pub made-still : Made s.sizes s.chains y r → Made s.sizes (installed s i).chains y r
    made-still m =
        let p = made-head s.sizes s.chains y r m in
        which-made s.sizes (installed s i).chains y r (made-writes s.sizes s.chains y r m) (omega (arith, p.0, (installs s i ch).head-old r no))
        (same-xmin ∙ p.1)

    pub made-old : Made s.sizes (installed s i).chains y r → Made s.sizes s.chains y r
    made-old m =
        let p = made-head s.sizes (installed s i).chains y r m in
        which-made s.sizes s.chains y r (made-writes s.sizes (installed s i).chains y r m) (omega (arith, p.0, (installs s i ch).head-old r no))
        (sym same-xmin ∙ p.1)

module _ (s : Store) (i : ℕ) (ch : Chained s.chains) (n : Numbers s.clock s.txns) (h : HoldersAt s) (g : WrittenAt s) (l : Live (s.txns i))
    (a : rank (s.txns i).phase ≡ phase_prepared) where
  gr : Grown (s.txns i) (version_rows s.sizes s.chains (s.txns i).writes) s.chains (installed s i).chains
  gr = installs s i ch

  -- rows of others are untouched
  others-row : (j r : ℕ) → j ≢ i → phase_installed ≤ rank (s.txns j).phase → Writes s.sizes (s.txns j) r
      → (installed s i).chains.head r ≡ s.chains.head r
  others-row j r d b w = gr.head-old r (λ m. d (one-claim s i n h j i r (omega arith, w) (omega arith, gets-writes s.sizes s.chains (s.txns i) r m)))

  -- a row of mine that got no version keeps its head
  same_head : (r : ℕ) → ErasesNothing s.chains (s.txns i) r → (installed s i).chains.head r ≡ s.chains.head r
  same_head r e = gr.head-old r (λ m. nothing-got s.sizes s.chains (s.txns i) r e m)

  same_old : (r : ℕ) → (installed s i).chains.head r ≡ s.chains.head r → old_key (installed s i).chains r ≡ old_key s.chains r
  same_old r e = ap (key_at (installed s i).chains) e ∙ key_at-grown _ _ _ _ gr (s.chains.head r) (ch.heads-in r)

  got : (r : ℕ) → Made s.sizes (installed s i).chains (s.txns i) r → Gets s.sizes s.chains (s.txns i) r
  got r w = ⊎_elim (λ m. m) (λ e. absurd (no-head e (made-head s.sizes (installed s i).chains (s.txns i) r w)))
      (gets-or-not s.sizes s.chains (s.txns i) r (made-writes s.sizes (installed s i).chains (s.txns i) r w))
    where
      no-head : ErasesNothing s.chains (s.txns i) r
          → (1 ≤ (installed s i).chains.head r) × ((installed s i).chains.xmin ((installed s i).chains.head r) ≡ (s.txns i).number) → ⊥
      no-head e p =
          let f = same_head r e in
          let m = g.made (s.chains.head r) i (omega (arith, p.0)) (ch.heads-in r) l
          (sym (ap (installed s i).chains.xmin f ∙ gr.xmin-old (s.chains.head r) (ch.heads-in r)) ∙ p.1) in
          omega (arith, m.0)

  install-mine : (r : ℕ) → Made s.sizes (installed s i).chains (s.txns i) r
      → Mine (installed s i).chains s.index.posted (with_phase (s.txns i) Installed) r
  install-mine r w = let new = gr.head-new r (got r w) in record {
    head-pos = omega (arith, new.above);
    xmin-is = new.xmin-is;
    key-is = key_at-key (installed s i).chains _ (λ e. omega (arith, new.above)) ∙ new.key-is;
    payload-is = new.payload-is;
    before = ap (key_at (installed s i).chains) new.next-is
        ∙ (key_at-grown _ _ _ _ gr (s.chains.head r) (ch.heads-in r)
        ∙ sym (posted-old s n h g i r a (made-writes s.sizes (installed s i).chains (s.txns i) r w)));
  }

  install-either : (r : ℕ) → Writes s.sizes (s.txns i) r
      → Made s.sizes (installed s i).chains (s.txns i) r ⊎ ErasesNothing (installed s i).chains (s.txns i) r
  install-either r w = ⊎_elim (λ m. inl (made-new s i ch r m)) (λ e. inr (same_old r (same_head r e) ∙ e.0, e.1))
      (gets-or-not s.sizes s.chains (s.txns i) r w)

  -- what others made is theirs, before and after
  not-mine : (j r : ℕ) → j ≢ i → phase_installed ≤ rank (s.txns j).phase → Writes s.sizes (s.txns j) r → Gets s.sizes s.chains (s.txns i) r → ⊥
  not-mine j r d b w m = d (one-claim s i n h j i r (omega arith, w) (omega arith, gets-writes s.sizes s.chains (s.txns i) r m))

  others-after : (j r : ℕ) → j ≢ i → phase_installed ≤ rank (s.txns j).phase → Made s.sizes s.chains (s.txns j) r
      → Made s.sizes (installed s i).chains (s.txns j) r
  others-after j r d b m = made-still s i ch r (not-mine j r d b (made-writes s.sizes s.chains (s.txns j) r m)) (s.txns j) m

  others-before : (j r : ℕ) → j ≢ i → phase_installed ≤ rank (s.txns j).phase → Made s.sizes (installed s i).chains (s.txns j) r
      → Made s.sizes s.chains (s.txns j) r
  others-before j r d b m = made-old s i ch r (not-mine j r d b (made-writes s.sizes (installed s i).chains (s.txns j) r m)) (s.txns j) m

  others-either : (j r : ℕ) → j ≢ i → Live (s.txns j) → phase_installed ≤ rank (s.txns j).phase → Writes s.sizes (s.txns j) r
      → Made s.sizes (installed s i).chains (s.txns j) r ⊎ ErasesNothing (installed s i).chains (s.txns j) r
  others-either j r d v b w =
      ⊎_elim (λ m. inl (others-after j r d b m)) (λ e. inr (same_old r (others-row j r d b w) ∙ e.0, e.1)) (g.made-or-nothing j r v b w)

  install-others : (j r : ℕ) → j ≢ i → Live (s.txns j) → phase_installed ≤ rank (s.txns j).phase → Made s.sizes s.chains (s.txns j) r
      → Mine (installed s i).chains s.index.posted (s.txns j) r
  install-others j r d v b w =
      let m = g.mine j r v b w in
      let e = others-row j r d b (made-writes s.sizes s.chains (s.txns j) r w) in
      let u = ch.heads-in r in
      record {
        head-pos = omega (arith, m.head-pos);
        xmin-is = ap (installed s i).chains.xmin e ∙ (gr.xmin-old (s.chains.head r) u ∙ m.xmin-is);
        key-is = ap (key_at (installed s i).chains) e ∙ (key_at-grown _ _ _ _ gr (s.chains.head r) u ∙ m.key-is);
        payload-is = ap (installed s i).chains.payload e ∙ (gr.payload-old (s.chains.head r) u ∙ m.payload-is);
        before = ap (λ p. key_at (installed s i).chains ((installed s i).chains.next p)) e
            ∙ (ap (key_at (installed s i).chains) (gr.next-old (s.chains.head r) u)
            ∙ (key_at-grown _ _ _ _ gr (s.chains.next (s.chains.head r)) (omega (arith, ch.next-falls (s.chains.head r) m.head-pos u))
            ∙ m.before));
      }

  install-made : (q j : ℕ) → 1 ≤ q → q ≤ (installed s i).chains.used → Live ((installed s i).txns j)
      → (installed s i).chains.xmin q ≡ ((installed s i).txns j).number
      → (phase_installed ≤ rank ((installed s i).txns j).phase) ×
      ((r : ℕ) × Made s.sizes (installed s i).chains ((installed s i).txns j) r × ((installed s i).chains.head r ≡ q))
  install-made q j p u = update-elim
      (λ y. Live y → (installed s i).chains.xmin q ≡ y.number → (phase_installed ≤ rank y.phase) ×
      ((r : ℕ) × Made s.sizes (installed s i).chains y r × ((installed s i).chains.head r ≡ q))) s.txns i (with_phase (s.txns i) Installed) j
      (λ e v f. (
        omega arith,
        ⊎_elim (λ o. absurd (omega (arith, (g.made q i p o l (sym (gr.xmin-old q o) ∙ f)).0))) (λ o. let w = gr.made q o u in
            (w.0, made-new s i ch w.0 w.1, w.2)) (old-or-new s.chains.used q),
      ))
      (λ d v f. ⊎_elim (λ o. old d v o f) (λ o. absurd (d (new v o f))) (old-or-new s.chains.used q))
    where
      old : j ≢ i → Live (s.txns j) → q ≤ s.chains.used → (installed s i).chains.xmin q ≡ (s.txns j).number
          → (phase_installed ≤ rank (s.txns j).phase) × ((r : ℕ) × Made s.sizes (installed s i).chains (s.txns j) r × ((installed s i).chains.head r ≡ q))
      old d v o f = let m = g.made q j p o v (sym (gr.xmin-old q o) ∙ f) in (
        m.0,
        (
          m.1.0,
          others-after j m.1.0 d m.0 m.1.1,
          others-row j m.1.0 d m.0 (made-writes s.sizes s.chains (s.txns j) m.1.0 m.1.1) ∙ m.1.2,
        ),
      )

      new : Live (s.txns j) → s.chains.used < q → (installed s i).chains.xmin q ≡ (s.txns j).number → j ≡ i
      new v o f =
          let w = gr.made q o u in
          n.distinct j i v (sym f ∙ (ap (installed s i).chains.xmin (sym w.2) ∙ (gr.head-new w.0 w.1).xmin-is))

  install-posts : (r : ℕ) → (s.index.posted r ≡ key_at (installed s i).chains ((installed s i).chains.head r))
      ⊎ ((j : ℕ) × Live ((installed s i).txns j) × (phase_installed ≤ rank ((installed s i).txns j).phase)
      × Made s.sizes (installed s i).chains ((installed s i).txns j) r)
  install-posts r = go (member r (version_rows s.sizes s.chains (s.txns i).writes)) refl
    where
      other : (j : ℕ) → Live (s.txns j) → phase_installed ≤ rank (s.txns j).phase → Made s.sizes s.chains (s.txns j) r
          → (k : ℕ) × Live ((installed s i).txns k) × (phase_installed ≤ rank ((installed s i).txns k).phase)
          × Made s.sizes (installed s i).chains ((installed s i).txns k) r
      other j v b w =
          let d : j ≢ i = λ e. omega (arith, rw e at b) in
          let m = others-after j r d b w in
          (j, rw (update_other s.txns i _ j d) v, rw (update_other s.txns i _ j d) b, rw (update_other s.txns i _ j d) m)

      go : (b : Bool) → member r (version_rows s.sizes s.chains (s.txns i).writes) ≡ b
          → (s.index.posted r ≡ key_at (installed s i).chains ((installed s i).chains.head r)) ⊎
          ((j : ℕ) × Live ((installed s i).txns j) × (phase_installed ≤ rank ((installed s i).txns j).phase) × Made s.sizes (installed s i).chains
          ((installed s i).txns j) r)
      go true e = let m = made-new s i ch r (member-among r _ e) in inr (i, rw update_same l, rw update_same (omega arith), rw update_same m)
      go false e =
          let same = gr.head-old r (λ m. true≢false (sym (among-member r _ m) ∙ e)) in
          ⊎_elim
          (λ f. inl (f ∙ sym (ap (key_at (installed s i).chains) same ∙ key_at-grown _ _ _ _ gr (s.chains.head r) (ch.heads-in r))))
          (λ o. inr (other o.0 o.1 o.2 o.3))
          (g.posts r)

  written-install : WrittenAt (installed s i)
  written-install = record {
    mine = λ j r. update-elim (λ y. Live y → phase_installed ≤ rank y.phase → Made s.sizes (installed s i).chains y r → Mine (installed s i).chains
        s.index.posted y r) s.txns i (with_phase (s.txns i) Installed) j
        (λ e v b w. install-mine r w)
        (λ d v b w. install-others j r d v b (others-before j r d b w));
    made-or-nothing = λ j r. update-elim
        (λ y. Live y → phase_installed ≤ rank y.phase → Writes s.sizes y r → Made s.sizes (installed s i).chains y r ⊎ ErasesNothing
        (installed s i).chains y r) s.txns i (with_phase (s.txns i) Installed) j
        (λ e v b w. install-either r w)
        (λ d v b w. others-either j r d v b w);
    made = install-made;
    posts = install-posts;
  }

pub written-move : (s s' : Store) {a : ℕ} → Chained s.chains → Numbers s.clock s.txns → BelowAt s → HoldersAt s → WrittenAt s → Move s a s'
    → WrittenAt s'
written-move s s' = go s'
  where
    go : {a : ℕ} (s' : Store) → Chained s.chains → Numbers s.clock s.txns → BelowAt s → HoldersAt s → WrittenAt s → Move s a s'
        → WrittenAt s'
    go s' ch n b h g (stay i) = g
    go s' ch n b h g (did-begin i a e c d) =
        written-early _ _ _ _ i _ (λ l. absurd (omega arith)) (omega arith) (λ q p u l f. omega (arith, b.xmin-below q)) g
    go s' ch n b h g (did-mark i a e) = written_on _ _ _ _ i _ refl (omega arith) (omega arith) g
    go s' ch n b h g (did-capture i k a e c) = written_on _ _ _ _ i _ refl (omega arith) (omega arith) g
    go s' ch n b h g (did-collect i a e) = written_on _ _ _ _ i _ refl (omega arith) (omega arith) g
    go s' ch n b h g (did-rows i a e c) = written_on _ _ _ _ i _ refl (omega arith) (omega arith) g
    go s' ch n b h g (did_write i w a e c d) = written_on _ _ _ _ i _ refl (omega arith) (omega arith) g
    go s' ch n b h g (did-prepare i a e c) = written_on _ _ _ _ i _ refl (omega arith) (omega arith) g
    go s' ch n b h g (did-install i a e) = written-install s i ch n h g a e
    go s' ch n b h g (did-end i a e) = written-end s i n h g a e
    go s' ch n b h g (did-publish i a e) = written-publish s i n h g a e
    go s' ch n b h g (did-abort i a e) = written-early _ _ _ _ i no_txn (λ l. e) (omega arith) (λ q p u l f. omega arith) g

pub written-fresh : (z : Sizes) (clock : ℕ) → WrittenAt (fresh z clock)
written-fresh z clock = record {
  mine = λ j r l h w. absurd (omega arith);
  made-or-nothing = λ j r l h w. absurd (omega arith);
  made = λ q j p u l f. absurd (omega arith);
  posts = λ r. inl (sym (key_at-zero (fresh z clock).chains));
}
