-- A validated read stands: where the verdict is clear, a snapshot taken at that step shows for the key what the transaction read. Assumes nothing.
use mathlib.Core.Path.{◌≡◌, refl, sym, ap, ◌∙◌}
use mathlib.Core.Bool.{false}
use mathlib.Core.Option.{some}
use mathlib.Core.List.{[]}
use Prim.Native.Nat.{ℕ, ◌<◌}
use native.Mathlib.Omega.{arith}
use Rattle.base_lists.specs.Lists.{Among}
use Rattle.base_lists.proofs.ListLaws.{same_test, map-pick}
use Rattle.model.specs.Store.{Chains, Snapshot, Store, rank, phase_installed, same_key}
use Rattle.model.specs.Seeing.{version_of, key_at, pending, record_of, shows, Live, snapshot_now}
use Rattle.model.specs.Steps.{read_buckets}
use Rattle.model.specs.Refusals.{by_another}
use Rattle.model.proofs.SeeingLaws.{same-key, key-same}
use Rattle.model.proofs.Good.{Good}
use Rattle.model.proofs.Remains.{Remains}
use Rattle.model.proofs.Cleared.{Cleared}
use Rattle.model.proofs.Relied.{Relied, read-now, now-read}

module _ (s : Store) (g : Good s) (i : ℕ) (l : Live (s.txns i)) (a : rank (s.txns i).phase < phase_installed) (c₁ : Chains) (k : ℕ)
    (kept : Remains c₁ (s.txns i).snapshot k s.sizes s.chains (s.txns i)) (clear : Cleared s.chains s.index (s.txns i))
    (untaken : (b : ℕ) → Among b (read_buckets (s.txns i)) → by_another s.held.holder (s.txns i).number b ≡ false) where
  abbrev c : Chains
  c = s.chains

  abbrev v : Snapshot
  v = (s.txns i).snapshot

  relied : Relied s.sizes c (s.txns i) k []
  relied = record { bucket-in = kept.bucket-read; recorded-in = λ r u b e. rw (kept.same_version r) (kept.records-keep r u (sym (kept.same-key r) ∙ e)) }

  same-now : (r : ℕ) → r < s.sizes.rows → key_at c (version_of c v r) ≡ some k → version_of c (snapshot_now s) r ≡ version_of c v r
  unfolding pending
  same-now r u e = read-now s g i l a k [] relied clear untaken r u refl e

  pub stands : shows c s.sizes.rows (snapshot_now s) k ≡ shows c₁ s.sizes.rows v k
  unfolding shows
  stands = map-pick (record_of c (snapshot_now s)) (record_of c₁ v) (λ r. same_key (key_at c (version_of c (snapshot_now s) r)) (some k))
      (λ r. same_key (key_at c₁ (version_of c₁ v r)) (some k)) 0 s.sizes.rows
      (λ r lo hi. same_test _ _
      (λ t. key-same _ _ (sym (kept.same-key r) ∙ now-read s g i l a k [] relied clear untaken r (same-key _ _ t)))
      (λ t. let e = kept.same-key r ∙ same-key _ _ t in key-same _ _ (ap (key_at c) (same-now r (omega arith) e) ∙ e)))
      (λ r lo hi t. let e = kept.same-key r ∙ same-key _ _ t in rw (same-now r (omega arith) e) (kept.same_version r))
