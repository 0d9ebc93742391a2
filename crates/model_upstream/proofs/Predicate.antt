-- Predicate: `index_lock_keys`, `publish_index_stamps` and `validate_after_late_publication`, clause by clause.
-- Assumes nothing.
use Prim.Native.Nat.{ℕ, suc, ◌≤◌}
use mathlib.Core.Path.{◌≡◌, refl, ap}
use mathlib.Core.Bool.{Bool, true, false, cond}
use mathlib.Core.Logic.{◌↔◌, ◌≢◌, ◌⊎◌, inl, inr, ⊎_elim}
use mathlib.Core.List.{List, [], ◌++◌}
use native.Mathlib.Omega.{arith}
use Rattle.base_lists.specs.Lists.{member, Among}
use Rattle.base_lists.specs.Table.{update_all}
use Rattle.base_lists.proofs.ListLaws.{among-left, among-right, among_cases, join-which, which-join, member-among, among-member}
use Rattle.model.specs.Store.{Chains, Index, IndexRead, Txn, Store, same_key}
use Rattle.model.specs.Verdict.{Verdict, Clear, Bucket, Row, Mark, verdict_number, verdict}
use Rattle.model.specs.Steps.{pending_rows, made_rows, old_key, key_before, new_key, key_buckets, read_buckets, needed_buckets, changed_buckets}
use Rattle.model.specs.Refusals.{publish, txn_of}
use Rattle.model.specs.Machine.{accepted, step}
use Rattle.model.specs.Given.{number}
use Rattle.model.proofs.Outcomes.{done-does}
use Rattle.model.proofs.Verdicts.{verdict-0}

-- `index_lock_keys`: prepare needs the buckets of the index reads, and of the old and the new key of every pending row, and no others
pub lock-keys : (s : Store) (x : Txn) (b : ℕ) → Among b (needed_buckets s x)
    ↔ Among b (read_buckets x)
    ⊎ ((r : ℕ) × Among r (pending_rows s.sizes x.writes)
    × (Among b (key_buckets s.sizes (old_key s.chains r)) ⊎ Among b (key_buckets s.sizes (new_key x r))))
unfolding needed_buckets
lock-keys s x b = (
  λ m. ⊎_elim inl (λ j. let w = join-which keys_of rs b j in inr (w.0, w.1, among_cases b (key_buckets s.sizes (old_key s.chains w.0)) _ w.2))
      (among_cases b (read_buckets x) _ m),
  ⊎_elim (among-left b (read_buckets x) _)
      (λ w. among-right b (read_buckets x) _
      (which-join keys_of rs b w.0 w.1
      (⊎_elim (among-left b (key_buckets s.sizes (old_key s.chains w.0)) _) (among-right b (key_buckets s.sizes (old_key s.chains w.0)) _)
      w.2))),
)
  where
    rs : List ℕ
    rs = pending_rows s.sizes x.writes

    keys_of : ℕ → List ℕ
    keys_of r = key_buckets s.sizes (old_key s.chains r) ++ key_buckets s.sizes (new_key x r)

-- `change_keys`, as document 01 has them: the buckets of both keys of a pending row that got a version and whose key changes, and no others
module _ (s : Store) (x : Txn) (b : ℕ) where
  abbrev pub ChangedAt : ℕ → Type 0
  ChangedAt r = (same_key (key_before s.chains r) (new_key x r) ≡ false)
      × (Among b (key_buckets s.sizes (key_before s.chains r)) ⊎ Among b (key_buckets s.sizes (new_key x r)))

  changed-at : (r : ℕ) (same : Bool) → same_key (key_before s.chains r) (new_key x r) ≡ same
      → Among b (cond same [] (key_buckets s.sizes (key_before s.chains r) ++ key_buckets s.sizes (new_key x r))) → ChangedAt r
  changed-at r true e j = absurd j
  changed-at r false e j = (e, among_cases b (key_buckets s.sizes (key_before s.chains r)) _ j)

  pub change-keys : Among b (changed_buckets s x) ↔ ((r : ℕ) × Among r (made_rows s.sizes s.chains x.number x.writes) × ChangedAt r)
  unfolding changed_buckets
  change-keys = (
    λ m. let w = join-which _ (made_rows s.sizes s.chains x.number x.writes) b m in
        (w.0, w.1, changed-at w.0 (same_key (key_before s.chains w.0) (new_key x w.0)) refl w.2),
    λ w. which-join _ (made_rows s.sizes s.chains x.number x.writes) b w.0 w.1
        (rw w.2.0 (⊎_elim (among-left b (key_buckets s.sizes (key_before s.chains w.0)) _)
        (among-right b (key_buckets s.sizes (key_before s.chains w.0)) _) w.2.1)),
  )

-- `publish_index_stamps`: one stamp is taken from the clock; the changed buckets get it and no others (`stamp_relation`)
module _ (s : Store) (t : ℕ) (e : number s (publish t) ≡ 0) where
  stamps-after : (step s (publish t)).store.index.stamp ≡ update_all s.index.stamp (changed_buckets s (txn_of s t)) s.clock
  unfolding accepted
  stamps-after = ap (λ w. w.store.index.stamp) (done-does s (publish t) e)

  pub clock-after : (step s (publish t)).store.clock ≡ suc s.clock
  unfolding accepted
  clock-after = ap (λ w. w.store.clock) (done-does s (publish t) e)

  pub stamped : (b : ℕ) → Among b (changed_buckets s (txn_of s t)) → (step s (publish t)).store.index.stamp b ≡ s.clock
  unfolding update_all
  stamped b m = rw (stamps-after, among-member b (changed_buckets s (txn_of s t)) m)

  pub unstamped : (b : ℕ) → member b (changed_buckets s (txn_of s t)) ≡ false → (step s (publish t)).store.index.stamp b ≡ s.index.stamp b
  unfolding update_all
  unstamped b m = rw (stamps-after, m)

  -- a stamp that changed is the one taken, at a changed bucket
  pub only-changed : (b : ℕ) → (step s (publish t)).store.index.stamp b ≢ s.index.stamp b
      → Among b (changed_buckets s (txn_of s t)) × ((step s (publish t)).store.index.stamp b ≡ s.clock)
  only-changed b d = go (member b (changed_buckets s (txn_of s t))) refl
    where
      go : (m : Bool) → member b (changed_buckets s (txn_of s t)) ≡ m
          → Among b (changed_buckets s (txn_of s t)) × ((step s (publish t)).store.index.stamp b ≡ s.clock)
      go true m = let a = member-among b (changed_buckets s (txn_of s t)) m in (a, stamped b a)
      go false m = absurd (d (unstamped b m))

-- `validate_after_late_publication`: a read bucket whose stamp is not below the number is a conflict
pub late-publication : (c : Chains) (i : Index) (x : Txn) (r : IndexRead) → Among r x.reads → x.number ≤ i.stamp r.bucket
    → verdict_number (verdict c i x) ≢ 0
late-publication c i x r m l e =
    let g = (verdict-0 c i x).0 (clear (verdict c i x) e) in
    let h = g.1.0 r m in
    omega (arith, h.1)
  where
    clear : (v : Verdict) → verdict_number v ≡ 0 → v ≡ Clear
    clear Clear z = refl
    clear (Bucket b captured present) z = absurd (omega arith)
    clear (Row q p) z = absurd (omega arith)
    clear Mark z = absurd (omega arith)
