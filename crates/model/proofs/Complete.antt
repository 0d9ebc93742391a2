-- Why no candidate is missed: under a bucket that nobody else holds and that is stamped below the number, no change of key is unseen. Assumes nothing.
use mathlib.Core.Path.{◌≡◌, refl, sym, ap, ◌∙◌}
use mathlib.Core.Bool.{Bool, true, false, cond}
use mathlib.Core.Logic.{◌⊎◌, inl, inr, ⊎_elim}
use mathlib.Core.Option.{Option, none, some}
use mathlib.Core.List.{[], ◌++◌}
use Prim.Native.Nat.{ℕ, ◌≤◌, ◌<◌}
use native.Mathlib.Omega.{arith}
use Rattle.base_lists.specs.Lists.{Among}
use Rattle.base_lists.proofs.ListLaws.{among_cases, join-which, which-pick}
use Rattle.model.specs.Store.{Chains, Snapshot, Holding, Store, rank, phase_installed, same_key, bucket_of}
use Rattle.model.specs.Seeing.{seen, version_of, key_at, Live}
use Rattle.model.specs.Steps.{posted_rows, key_before, new_key, key_buckets, changed_buckets, made_rows}
use Rattle.model.specs.Holding.{Wants, needs, Made}
use Rattle.model.proofs.Chained.{Chained}
use Rattle.model.proofs.Numbers.{Numbers}
use Rattle.model.proofs.SeeingLaws.{same-key, key-same, key_at-pos}
use Rattle.model.proofs.Holders.{HoldersAt, needs-old, needs-new}
use Rattle.model.proofs.Made.{made-writes}
use Rattle.model.proofs.Written.{WrittenAt}
use Rattle.model.proofs.Told.{KeyChange, Carries, ToldAt}
use Rattle.model.proofs.Walk.{Finds, nothing, here, down, version-finds}

-- no version that carries k, or stands on one that does, has another key than the version under it and is unseen
abbrev pub NoChange : Chains → Snapshot → ℕ → Type 0
NoChange c v k = (q : ℕ) → KeyChange c q → Carries c q k → seen v (c.xmin q) ≡ false → ⊥

-- then a key that is seen is the key where the walk began, and the other way round
pub key-up : (c : Chains) (v : Snapshot) (k : ℕ) → NoChange c v k → (p q : ℕ) → Finds c v p q → key_at c q ≡ some k → key_at c p ≡ some k
key-up c v k no_change p q (nothing a b) e = absurd (key_at-pos c q k e b)
key-up c v k no_change p q (here l u t f) e = rw f at e
key-up c v k no_change p q (down l u t m) e = go (same_key (key_at c p) (key_at c (c.next p))) refl (key-up c v k no_change (c.next p) q m e)
  where
    go : (b : Bool) → same_key (key_at c p) (key_at c (c.next p)) ≡ b → key_at c (c.next p) ≡ some k → key_at c p ≡ some k
    go true s ih = same-key _ _ s ∙ ih
    go false s ih = absurd (no_change p (record { from = l; in_use = u; changes = s }) (inr ih) t)

pub key-down : (c : Chains) (v : Snapshot) (k : ℕ) → NoChange c v k → (p q : ℕ) → Finds c v p q → key_at c p ≡ some k → key_at c q ≡ some k
key-down c v k no_change p q (nothing a b) e = absurd (key_at-pos c p k e a)
key-down c v k no_change p q (here l u t f) e = rw f e
key-down c v k no_change p q (down l u t m) e = key-down c v k no_change (c.next p) q m (go (same_key (key_at c p) (key_at c (c.next p))) refl)
  where
    go : (b : Bool) → same_key (key_at c p) (key_at c (c.next p)) ≡ b → key_at c (c.next p) ≡ some k
    go true s = sym (same-key _ _ s) ∙ e
    go false s = absurd (no_change p (record { from = l; in_use = u; changes = s }) (inl e) t)

module _ (s : Store) (n : Numbers s.clock s.txns) (h : HoldersAt s) (w : WrittenAt s) where
  -- the live maker of a version wants the buckets of its key and of the key under it
  pub maker-wants : (q m k : ℕ) → 1 ≤ q → q ≤ s.chains.used → Live (s.txns m) → s.chains.xmin q ≡ (s.txns m).number → Carries s.chains q k
      → Wants s.sizes s.index.posted (s.txns m) (bucket_of s.sizes k)
  maker-wants q m k p u l f carries =
      let o = w.made q m p u l f in
      let r = o.1.0 in
      let mine = w.mine m r l o.0 o.1.1 in
      inr (
        omega (arith, o.0),
        ⊎_elim
            (λ e. needs-new s.sizes s.index.posted (s.txns m) r k (made-writes s.sizes s.chains (s.txns m) r o.1.1)
            (sym mine.key-is ∙ (ap (key_at s.chains) o.1.2 ∙ e)))
            (λ e. needs-old s.sizes s.index.posted (s.txns m) r k (made-writes s.sizes s.chains (s.txns m) r o.1.1)
            (sym mine.before ∙ (ap (λ a. key_at s.chains (s.chains.next a)) o.1.2 ∙ e)))
            carries,
      )

  pub untold : ToldAt s → (i k : ℕ) → Live (s.txns i) → rank (s.txns i).phase < phase_installed → s.index.stamp (bucket_of s.sizes k) < (s.txns i).number
      → (s.held.holder (bucket_of s.sizes k) ≡ 0) ⊎ (s.held.holder (bucket_of s.sizes k) ≡ (s.txns i).number)
      → NoChange s.chains (s.txns i).snapshot k
  untold told i k l a below whose q change carries unseen =
      ⊎_elim (λ o. maker o.0 o.1 o.2 whose) (λ t. omega (arith, t k carries)) (told q i change l unseen)
    where
      maker : (m : ℕ) → Live (s.txns m) → s.chains.xmin q ≡ (s.txns m).number
          → (s.held.holder (bucket_of s.sizes k) ≡ 0) ⊎ (s.held.holder (bucket_of s.sizes k) ≡ (s.txns i).number) → ⊥
      maker m v f (inl z) = omega (arith, h.buckets.owns m (bucket_of s.sizes k) (maker-wants q m k change.from change.in_use v f carries))
      maker m v f (inr z) =
          let e : m ≡ i = n.distinct m i v (sym (h.buckets.owns m (bucket_of s.sizes k) (maker-wants q m k change.from change.in_use v f carries))
          ∙ z) in
          omega (arith, rw e at (w.made q m change.from change.in_use v f).0)

  -- who holds the bucket of k, stamped below its number, finds every row that it sees with k among the posted ones
  pub complete : Chained s.chains → ToldAt s → (i k : ℕ) → Live (s.txns i) → (s.txns i).phase ≡ Holding (bucket_of s.sizes k) k
      → s.index.stamp (bucket_of s.sizes k) < (s.txns i).number
      → (r : ℕ) → r < s.sizes.rows → key_at s.chains (version_of s.chains (s.txns i).snapshot r) ≡ some k → Among r (posted_rows s k)
  unfolding posted_rows
  complete ch told i k l ph below r inside e =
      which-pick (λ q. same_key (s.index.posted q) (some k)) 0 s.sizes.rows r (omega arith) (omega arith) (key-same _ _ (posted (w.posts r)))
    where
      mine : s.held.holder (bucket_of s.sizes k) ≡ (s.txns i).number
      mine = h.buckets.owns i (bucket_of s.sizes k) (inl (k, ph))

      head-key : key_at s.chains (s.chains.head r) ≡ some k
      head-key = key-up s.chains (s.txns i).snapshot k (untold told i k l (omega (arith, ap rank ph)) below (inr mine)) (s.chains.head r) _
          (version-finds s.chains (s.txns i).snapshot ch r) e

      posted : (s.index.posted r ≡ key_at s.chains (s.chains.head r))
          ⊎ ((j : ℕ) × Live (s.txns j) × (phase_installed ≤ rank (s.txns j).phase) × Made s.sizes s.chains (s.txns j) r) → s.index.posted r ≡ some k
      posted (inl f) = f ∙ head-key
      posted (inr o) =
          let v = needs-new s.sizes s.index.posted (s.txns o.0) r k (made-writes s.sizes s.chains (s.txns o.0) r o.3)
          (sym (w.mine o.0 r o.1 o.2 o.3).key-is ∙ head-key) in
          let f : o.0 ≡ i = n.distinct o.0 i o.1 (sym (h.buckets.owns o.0 (bucket_of s.sizes k) (inr (omega (arith, o.2), v))) ∙ mine) in
          absurd (omega (arith, ap rank ph, rw f at o.2))

  -- the buckets that publish stamps are wanted by the one who publishes
  key-which : (o : Option ℕ) (b : ℕ) → Among b (key_buckets s.sizes o) → (k : ℕ) × (o ≡ some k) × (b ≡ bucket_of s.sizes k)
  unfolding key_buckets
  key-which none b m = absurd m
  key-which (some k) b (inl e) = (k, refl, e)
  key-which (some k) b (inr m) = absurd m

  pub changed-wants : (i b : ℕ) → Live (s.txns i) → phase_installed ≤ rank (s.txns i).phase → Among b (changed_buckets s (s.txns i))
      → Wants s.sizes s.index.posted (s.txns i) b
  unfolding changed_buckets
  changed-wants i b l a m =
      let o = join-which (λ q. cond (same_key (key_before s.chains q) (new_key (s.txns i) q)) []
      (key_buckets s.sizes (key_before s.chains q) ++ key_buckets s.sizes (new_key (s.txns i) q)))
      (made_rows s.sizes s.chains (s.txns i).number (s.txns i).writes) b m in
      inr (omega arith, row o.0 o.1 (same_key (key_before s.chains o.0) (new_key (s.txns i) o.0)) o.2)
    where
      row : (r : ℕ) → Made s.sizes s.chains (s.txns i) r → (t : Bool)
          → Among b (cond t [] (key_buckets s.sizes (key_before s.chains r) ++ key_buckets s.sizes (new_key (s.txns i) r)))
          → Among b (needs s.sizes s.index.posted (s.txns i))
      row r v true c = absurd c
      row r v false c = ⊎_elim
          (λ d. let k = key-which (key_before s.chains r) b d in
          rw k.2 (needs-old s.sizes s.index.posted (s.txns i) r k.0 (made-writes s.sizes s.chains (s.txns i) r v)
          (sym (w.mine i r l a v).before ∙ k.1)))
          (λ d. let k = key-which (new_key (s.txns i) r) b d in
          rw k.2 (needs-new s.sizes s.index.posted (s.txns i) r k.0 (made-writes s.sizes s.chains (s.txns i) r v) k.1))
          (among_cases b (key_buckets s.sizes (key_before s.chains r)) (key_buckets s.sizes (new_key (s.txns i) r)) c)
