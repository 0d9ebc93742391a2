-- Where the verdict is clear, what a transaction relies on stands now, row by row, whatever writes were pending at its reads. Assumes nothing.
use mathlib.Core.Path.{◌≡◌, refl, sym, ap, ◌∙◌}
use mathlib.Core.Bool.{true, false, true≢false}
use mathlib.Core.Logic.{◌≢◌, ◌⊎◌, inl, inr}
use mathlib.Core.Option.{some}
use mathlib.Core.List.{List}
use Prim.Native.Nat.{ℕ, ◌≤◌, ◌<◌}
use native.Mathlib.Omega.{arith}
use native.Mathlib.Decide.{ℕ_discrete}
use Rattle.base_lists.specs.Lists.{Among}
use Rattle.base_lists.proofs.ListLaws.{is_false, among-map}
use Rattle.model.specs.Store.{Sizes, Chains, Snapshot, IndexRead, Write, Txn, Store, rank, phase_installed, phase_ended, bucket_of}
use Rattle.model.specs.Seeing.{seen, version_of, key_at, pending, record_of, Live, snapshot_now}
use Rattle.model.specs.Verdict.{bad_record}
use Rattle.model.specs.Steps.{has_read, read_buckets}
use Rattle.model.specs.Refusals.{by_another}
use Rattle.model.proofs.Numbers.{active-which}
use Rattle.model.proofs.SeeingLaws.{key_at-pos, read-bucket}
use Rattle.model.proofs.Walk.{Finds, here, version-finds, finds-one, finds-through, finds-shown, zero-finds, finds-open, finds-top}
use Rattle.model.proofs.Owned.{not-another}
use Rattle.model.proofs.Told.{seen-which, which-seen}
use Rattle.model.proofs.Complete.{NoChange, key-down, untold}
use Rattle.model.proofs.Good.{Good}
use Rattle.model.proofs.Cleared.{Cleared, read_below, record-open}

-- a finished read of key k while ws were pending, relied on: its bucket is among the index reads, and each row found through a version is recorded
pub record Relied (z : Sizes) (c : Chains) (x : Txn) (k : ℕ) (ws : List Write) : Type 0 where
  pub bucket-in : has_read x.reads (bucket_of z k) ≡ true
  pub recorded-in : (r : ℕ) → r < z.rows → pending ws r ≡ false → key_at c (version_of c x.snapshot r) ≡ some k
      → Among (record_of c x.snapshot r) x.records

module _ (s : Store) (g : Good s) (i : ℕ) (l : Live (s.txns i)) (a : rank (s.txns i).phase < phase_installed) where
  -- what the transaction sees, a snapshot taken now sees too
  now-sees : (p : ℕ) → 1 ≤ p → p ≤ s.chains.used → seen (s.txns i).snapshot (s.chains.xmin p) ≡ true → seen (snapshot_now s) (s.chains.xmin p) ≡ true
  unfolding snapshot_now
  now-sees p lo hi e = which-seen (snapshot_now s) (s.chains.xmin p) (g.below.xmin-below p) (λ m. let w =
      active-which s.txns (s.chains.xmin p) m in running w.0 w.2 w.3 w.4)
    where
      sees : (s.chains.xmin p < (s.txns i).snapshot.xmax) × (Among (s.chains.xmin p) (s.txns i).snapshot.active → ⊥)
      sees = seen-which (s.txns i).snapshot (s.chains.xmin p) e

      running : (j : ℕ) → Live (s.txns j) → rank (s.txns j).phase < phase_ended → s.chains.xmin p ≡ (s.txns j).number → ⊥
      running j v r f = elim (ℕ_discrete (s.txns j).number (s.txns i).number) [
        | yes d ↦ omega (arith, rw (g.numbers.distinct j i v d) at (g.written.made p j lo hi v f).0)
        | no d ↦ sees.1 (rw (sym f) at (g.numbers.knows i j l v (omega (arith, sees.0, (g.numbers.snapped i l).xmax-is)) r))
      ]

  unseen-then : (p : ℕ) → 1 ≤ p → p ≤ s.chains.used → seen (snapshot_now s) (s.chains.xmin p) ≡ false
      → seen (s.txns i).snapshot (s.chains.xmin p) ≡ false
  unseen-then p lo hi e = is_false _ (λ t. true≢false (sym (now-sees p lo hi t) ∙ e))

  -- the own number is seen
  own-seen : seen (s.txns i).snapshot (s.txns i).number ≡ true
  own-seen = let n = g.numbers.snapped i l in
      which-seen (s.txns i).snapshot (s.txns i).number (omega (arith, n.xmax-is)) (λ m. omega (arith, n.active-below _ m))

module _ (s : Store) (g : Good s) (i : ℕ) (l : Live (s.txns i)) (a : rank (s.txns i).phase < phase_installed) (k : ℕ) (ws : List Write)
    (relied : Relied s.sizes s.chains (s.txns i) k ws) (clear : Cleared s.chains s.index (s.txns i))
    (untaken : (b : ℕ) → Among b (read_buckets (s.txns i)) → by_another s.held.holder (s.txns i).number b ≡ false) where
  abbrev c : Chains
  c = s.chains

  abbrev v : Snapshot
  v = (s.txns i).snapshot

  no_change : NoChange c v k
  unfolding read_buckets
  no_change =
      let r = read-bucket (s.txns i).reads (bucket_of s.sizes k) relied.bucket-in in
      let held = rw r.2 at (among-map (λ (q : IndexRead). q.bucket) (s.txns i).reads r.0 r.1) in
      untold s g.numbers g.holders g.written g.told i k l a
      (rw r.2 at (read_below s.index (s.txns i).number r.0 (clear.reads-good r.0 r.1)))
      (not-another s.held.holder (s.txns i).number (bucket_of s.sizes k) (untaken (bucket_of s.sizes k) held))

  -- a row that was read through a version is headed by it
  read_head : (r : ℕ) → r < s.sizes.rows → pending ws r ≡ false → key_at c (version_of c v r) ≡ some k → version_of c v r ≡ c.head r
  read_head r u b e = finds-top c v g.chained (c.head r) (version_of c v r) walked pos
      (ended (record-open c (s.txns i) (record_of c v r) good)
      (finds-open c v g.chained (c.head r) (version_of c v r) walked pos
      (inl (g.chained.head-open r (λ f. pos (zero-finds c v (c.head r) (version_of c v r) walked f))))))
    where
      walked : Finds c v (c.head r) (version_of c v r)
      walked = version-finds c v g.chained r

      pos : version_of c v r ≢ 0
      pos = key_at-pos c (version_of c v r) k e

      good : bad_record c (s.txns i).number v (record_of c v r) ≡ false
      good = clear.records-good (record_of c v r) (relied.recorded-in r u b e)

      ended : (c.xmax (version_of c v r) ≡ 0) ⊎ ((c.xmax (version_of c v r) ≡ (s.txns i).number) ⊎ (seen v (c.xmax (version_of c v r)) ≡ true))
          → (c.xmax (version_of c v r) ≡ 0) ⊎ (seen v (c.xmax (version_of c v r)) ≡ false) → c.xmax (version_of c v r) ≡ 0
      ended (inl x) y = x
      ended (inr x) (inl y) = y
      ended (inr (inl x)) (inr y) = absurd (true≢false (sym (own-seen s g i l a) ∙ (ap (seen v) (sym x) ∙ y)))
      ended (inr (inr x)) (inr y) = absurd (true≢false (sym x ∙ y))

  -- and is shown so now
  pub read-now : (r : ℕ) → r < s.sizes.rows → pending ws r ≡ false → key_at c (version_of c v r) ≡ some k → version_of c (snapshot_now s) r ≡ version_of c v r
  read-now r u b e =
      let shown = finds-shown c v (c.head r) (version_of c v r) (version-finds c v g.chained r) (key_at-pos c (version_of c v r) k e) in
      finds-one c (snapshot_now s) (c.head r) (version_of c (snapshot_now s) r) (version_of c v r) (version-finds c (snapshot_now s) g.chained r)
      (rw (read_head r u b e) (here {p = c.head r} (omega (arith, read_head r u b e, shown.from)) (g.chained.heads-in r)
      (rw (read_head r u b e) at (now-sees s g i l a (version_of c v r) shown.from shown.in_use shown.seen-is)) refl))

  -- a row that shows the key now showed it then
  pub now-read : (r : ℕ) → key_at c (version_of c (snapshot_now s) r) ≡ some k → key_at c (version_of c v r) ≡ some k
  now-read r e = key-down c v k no_change (version_of c (snapshot_now s) r) (version_of c v r)
      (finds-through c (snapshot_now s) v (unseen-then s g i l a) (c.head r) (version_of c (snapshot_now s) r) (version_of c v r)
      (version-finds c (snapshot_now s) g.chained r) (key_at-pos c _ k e) (version-finds c v g.chained r)) e
