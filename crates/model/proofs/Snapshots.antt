-- The versions of a row are the events of a run, so upstream's snapshot_rows is what a live transaction sees of it. Assumes nothing.
use mathlib.Core.Path.{◌≡◌, refl, sym, ap, ◌∙◌}
use mathlib.Core.Bool.{Bool, true, false, cond, true≢false}
use mathlib.Core.Logic.{◌≢◌}
use mathlib.Core.Option.{Option, none}
use mathlib.Core.List.{List, [], ◌∷◌}
use Prim.Native.Nat.{ℕ, ◌≤◌}
use native.Mathlib.Omega.{arith}
use Rattle.base_lists.specs.Table.{update}
use Rattle.base_lists.proofs.TableLaws.{update_same, update_other}
use Rattle.model.specs.Store.{Sizes, Chains, Txn, Store}
use Rattle.model.specs.Seeing.{seen, version_of, key_at, Live}
use Rattle.model.specs.Upstream.{creator_visible, Event, snapshot_rows}
use Rattle.model.specs.Holding.{Unpublished}
use Rattle.model.proofs.Numbers.{Snapped}
use Rattle.model.proofs.SeeingLaws.{key_at-zero, key_at-key}
use Rattle.model.proofs.Walk.{Finds, nothing, here, down, zero-finds, version-finds}
use Rattle.model.proofs.Good.{Good}
use Rattle.model.proofs.UpstreamLaws.{creator-seen}

-- from pointer p down, the versions of row r are its events, newest first
pub data Traced (c : Chains) (r : ℕ) : List Event → ℕ → Type 0 where
  start : {p : ℕ} → p ≡ 0 → Traced c r [] p
  own : {e : Event} {older : List Event} {p : ℕ} → e.row ≡ r → 1 ≤ p → p ≤ c.used → c.xmin p ≡ e.creator → c.key p ≡ e.after
      → Traced c r older (c.next p) → Traced c r (e ∷ older) p
  other : {e : Event} {older : List Event} {p : ℕ} → e.row ≢ r → Traced c r older p → Traced c r (e ∷ older) p

-- the row's events lead down from its head, or, while it is unpublished, from the version under it
pub data RowTraced (z : Sizes) (c : Chains) (t : ℕ → Txn) (es : List Event) (r : ℕ) : Type 0 where
  whole : ((j : ℕ) → Unpublished z c (t j) r → ⊥) → Traced c r es (c.head r) → RowTraced z c t es r
  waiting : (j : ℕ) → Unpublished z c (t j) r → Traced c r es (c.next (c.head r)) → RowTraced z c t es r

abbrev pub TracedAt : Store → List Event → Type 0
TracedAt s es = (r : ℕ) → RowTraced s.sizes s.chains s.txns es r

-- what upstream sees of the events is what the walk finds
walk-own : (c : Chains) (x : Txn) (r : ℕ) (e : Event) (older : ℕ → Option ℕ) (p q : ℕ) → e.row ≡ r → c.key p ≡ e.after → (b : Bool)
    → seen x.snapshot (c.xmin p) ≡ b → 1 ≤ p → Finds c x.snapshot p q
    → (Finds c x.snapshot (c.next p) q → older r ≡ key_at c q) → cond b (update older e.row e.after) older r ≡ key_at c q
walk-own c x r e older p q d k b t l (nothing z f) deeper = absurd (omega arith)
walk-own c x r e older p q d k true t l (here a u v f) deeper =
    rw (← d, update_same older e.row e.after) (sym (ap (key_at c) f ∙ (key_at-key c p (omega arith) ∙ k)))
walk-own c x r e older p q d k false t l (here a u v f) deeper = absurd (true≢false (sym v ∙ t))
walk-own c x r e older p q d k true t l (down a u v n) deeper = absurd (true≢false (sym t ∙ v))
walk-own c x r e older p q d k false t l (down a u v n) deeper = deeper n

walk_rows : (c : Chains) (x : Txn) → Snapped x.number x.snapshot → (r : ℕ) (es : List Event) (p q : ℕ) → Traced c r es p → Finds c x.snapshot p q
    → snapshot_rows (λ m. none) es x r ≡ key_at c q
unfolding snapshot_rows
walk_rows c x g r [] p q (start e) f = sym (ap (key_at c) (zero-finds c x.snapshot p q f e) ∙ key_at-zero c)
walk_rows c x g r (e ∷ older) p q (own d l u m k n) f =
    walk-own c x r e (snapshot_rows (λ m. none) older x) p q d k (creator_visible x e.creator)
    (ap (seen x.snapshot) m ∙ sym (creator-seen x g e.creator)) l f (walk_rows c x g r older (c.next p) q n)
walk_rows c x g r (e ∷ older) p q (other d n) f = go (creator_visible x e.creator) (walk_rows c x g r older p q n f)
  where
    go : (b : Bool) → snapshot_rows (λ m. none) older x r ≡ key_at c q
        → cond b (update (snapshot_rows (λ m. none) older x) e.row e.after) (snapshot_rows (λ m. none) older x) r ≡ key_at c q
    go true h = update_other (snapshot_rows (λ m. none) older x) e.row e.after r (λ f. d (sym f)) ∙ h
    go false h = h

-- snapshot_rows is what a live transaction sees of a row, unless it sees an unpublished version of it
pub snapshot-same : (s : Store) (es : List Event) → Good s → TracedAt s es → (j : ℕ) → Live (s.txns j) → (r : ℕ)
    → ((w : ℕ) → Unpublished s.sizes s.chains (s.txns w) r → seen (s.txns j).snapshot (s.chains.xmin (s.chains.head r)) ≡ false)
    → snapshot_rows (λ q. none) es (s.txns j) r ≡ key_at s.chains (version_of s.chains (s.txns j).snapshot r)
snapshot-same s es g h j l r unseen = go (h r) (version-finds s.chains (s.txns j).snapshot g.chained r)
  where
    under : (p : ℕ) → p ≡ s.chains.head r → 1 ≤ p → seen (s.txns j).snapshot (s.chains.xmin p) ≡ false
        → Finds s.chains (s.txns j).snapshot p (version_of s.chains (s.txns j).snapshot r)
        → Finds s.chains (s.txns j).snapshot (s.chains.next p) (version_of s.chains (s.txns j).snapshot r)
    under p e a t (nothing z f) = absurd (omega arith)
    under p e a t (here b u v f) = absurd (true≢false (sym v ∙ t))
    under p e a t (down b u v n) = n

    go : RowTraced s.sizes s.chains s.txns es r
        → Finds s.chains (s.txns j).snapshot (s.chains.head r) (version_of s.chains (s.txns j).snapshot r)
        → snapshot_rows (λ q. none) es (s.txns j) r ≡ key_at s.chains (version_of s.chains (s.txns j).snapshot r)
    go (whole no_one d) f = walk_rows s.chains (s.txns j) (g.numbers.snapped j l) r es _ _ d f
    go (waiting w u d) f = walk_rows s.chains (s.txns j) (g.numbers.snapped j l) r es _ _ d
        (under (s.chains.head r) refl (g.written.mine w r u.0 u.1 u.2).head-pos (unseen w u) f)
