-- A quiet store, in which nobody is live, and a transaction that runs in it alone: nobody else holds or claims anything, and it sees the store's rows. Assumes
-- nothing.
use mathlib.Core.Path.{◌≡◌, sym, ap, ◌∙◌}
use mathlib.Core.Bool.{true, false}
use mathlib.Core.Logic.{◌≢◌, ◌⊎◌, inl, inr}
use mathlib.Core.List.{[], map}
use Prim.Native.Nat.{ℕ, suc, ◌≤◌, ◌<◌}
use native.Mathlib.Omega.{arith}
use native.Mathlib.Decide.{ℕ_discrete}
use Rattle.base_lists.specs.Lists.{Among}
use Rattle.model.specs.Store.{IndexRead, ReadRecord, Store, rank, phase_installed}
use Rattle.model.specs.Seeing.{seen, key_at}
use Rattle.model.specs.Steps.{old_key}
use Rattle.model.specs.Contents.{content, content_of, live_row}
use Rattle.model.specs.Refusals.{txn_of}
use Rattle.model.specs.Machine.{at}
use Rattle.model.specs.Given.{Lives}
use Rattle.model.proofs.Walk.{finds-head}
use Rattle.model.proofs.Told.{which-seen}
use Rattle.model.proofs.Good.{Good, right-shape}
use Rattle.model.proofs.Conditions.{the_one}
use Rattle.model.proofs.LiveRows.{head-shown}
use Rattle.model_in_turn.proofs.ByItself.{Local}

-- nobody is live
pub record Quiet (s : Store) : Type 0 where
  pub good : Good s
  pub idle : (i : ℕ) → (s.txns i).number ≡ 0

-- one is live: the transaction x by itself, begun at the quiet store s; its versions are not made yet
pub record Alone (s : Store) (x : Local) (t : Store) : Type 0 where
  pub good : Good t
  pub early : rank x.phase < phase_installed
  pub sizes-are : t.sizes ≡ s.sizes
  pub clock-is : t.clock ≡ suc s.clock
  pub chains-are : t.chains ≡ s.chains
  pub index_is : t.index ≡ s.index
  pub mine : (t.txns 0).number ≡ s.clock
  pub others : (i : ℕ) → i ≢ 0 → (t.txns i).number ≡ 0
  pub phase-is : (t.txns 0).phase ≡ x.phase
  pub unmarked : (t.txns 0).marked ≡ false
  pub xmax-is : (t.txns 0).snapshot.xmax ≡ suc s.clock
  pub active-is : (t.txns 0).snapshot.active ≡ []
  pub buckets-are : map (λ (q : IndexRead). q.bucket) (t.txns 0).reads ≡ x.buckets
  pub stamps-are : (q : IndexRead) → Among q (t.txns 0).reads → q.stamp ≡ s.index.stamp q.bucket
  pub writes_are : (t.txns 0).writes ≡ x.writes
  pub records-are : map (λ (q : ReadRecord). q.row) (t.txns 0).records ≡ x.records

module _ (s : Store) (q : Quiet s) where
  -- each row holds what its head does
  pub quiet-head : (r : ℕ) → live_row s r ≡ content (old_key s.chains r) (s.chains.payload (s.chains.head r))
  unfolding content_of
  quiet-head r = ap (λ p. content (key_at s.chains p) (s.chains.payload p)) (head-shown s q.good r (λ l h. omega (arith, h.1, q.idle h.0)))

  module _ (x : Local) (t : Store) (a : Alone s x t) where
    pub lives : Lives t s.clock
    lives = (0, omega arith, a.mine, q.good.numbers.clock-pos)

    pub place : at t s.clock ≡ 0
    place = the_one t s.clock (right-shape t a.good) (0, omega arith, a.mine, q.good.numbers.clock-pos)

    pub txn-is : txn_of t s.clock ≡ t.txns 0
    txn-is = ap t.txns place

    -- nobody else holds or claims anything
    only-own : (n k : ℕ) → n ≡ (t.txns k).number → (n ≡ 0) ⊎ (n ≡ s.clock)
    only-own n k e = elim (ℕ_discrete k 0) [ yes d ↦ inr (e ∙ (ap (λ i. (t.txns i).number) d ∙ a.mine)) | no d ↦ inl (e ∙ a.others k d) ]

    pub unheld : (b : ℕ) → (t.held.holder b ≡ 0) ⊎ (t.held.holder b ≡ s.clock)
    unheld b = elim (ℕ_discrete (t.held.holder b) 0) [ yes e ↦ inl e | no d ↦ let w = a.good.holders.buckets.owner b d in only-own _ w.0 w.1 ]

    pub unclaimed : (r : ℕ) → (t.held.claim r ≡ 0) ⊎ (t.held.claim r ≡ s.clock)
    unclaimed r = elim (ℕ_discrete (t.held.claim r) 0) [ yes e ↦ inl e | no d ↦ let w = a.good.holders.claims.owner r d in only-own _ w.0 w.1 ]

    -- its snapshot shows the quiet store's rows
    pub shows-quiet : (r : ℕ) → live_row s r ≡ content_of t.chains (t.txns 0).snapshot r
    unfolding content_of
    shows-quiet r = rw a.chains-are
        (quiet-head r ∙ ap (λ p. content (key_at s.chains p) (s.chains.payload p))
        (sym (finds-head s.chains (t.txns 0).snapshot q.good.chained r sees)))
      where
        sees : 1 ≤ s.chains.head r → seen (t.txns 0).snapshot (s.chains.xmin (s.chains.head r)) ≡ true
        sees l = which-seen (t.txns 0).snapshot (s.chains.xmin (s.chains.head r))
            (omega (arith, a.xmax-is, q.good.below.xmin-below (s.chains.head r))) (λ m. rw a.active-is at m)
