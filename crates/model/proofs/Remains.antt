-- A finished read remains: over any steps the transaction keeps its index read and its records, and sees each row at the same version, until it installs or
-- ends. Assumes nothing.
use mathlib.Core.Path.{◌≡◌, refl, sym, ◌∙◌}
use mathlib.Core.Bool.{true, false}
use mathlib.Core.Logic.{◌≢◌}
use mathlib.Core.Option.{some}
use mathlib.Core.List.{List}
use Prim.Native.Nat.{ℕ, ◌≤◌, ◌<◌}
use native.Mathlib.Omega.{arith}
use Rattle.base_lists.specs.Lists.{Among}
use Rattle.base_lists.specs.Table.{update}
use Rattle.base_lists.proofs.TableLaws.{update-elim}
use Rattle.model.specs.Store.{Sizes, Chains, Snapshot, ReadRecord, Installed, Txn, Store, no_txn, rank, phase_prepared, phase_installed, bucket_of}
use Rattle.model.specs.Seeing.{seen, version_of, key_at, record_of, Live}
use Rattle.model.specs.Steps.{new_txn, has_read, found_rows, with_phase, installed, version_rows}
use Rattle.model.specs.Refusals.{Step}
use Rattle.model.specs.Machine.{run}
use Rattle.model.proofs.Move.{Move, stay, did-begin, did-mark, did-capture, did-collect, did-rows, did_write, did-prepare, did-install, did-end}
use Rattle.model.proofs.Move.{did-publish, did-abort}
use Rattle.model.proofs.Moving.{run-inv}
use Rattle.model.proofs.Numbers.{clock-move}
use Rattle.model.proofs.SeeingLaws.{add_read-keeps, record_all-keeps}
use Rattle.model.proofs.Grown.{Grown}
use Rattle.model.proofs.Written.{installs}
use Rattle.model.proofs.Stable.{unseen-other, version-grown, key-grown, xmin-grown}
use Rattle.model.proofs.Good.{Good, good-move}

-- what stays of a read of key k that snapshot v made of the versions c₁; x is the transaction now, and c the versions
pub record Remains (c₁ : Chains) (v : Snapshot) (k : ℕ) (z : Sizes) (c : Chains) (x : Txn) : Type 0 where
  pub snapshot-is : x.snapshot ≡ v
  pub bucket-read : has_read x.reads (bucket_of z k) ≡ true
  pub records-keep : (r : ℕ) → r < z.rows → key_at c₁ (version_of c₁ v r) ≡ some k → Among (record_of c₁ v r) x.records
  pub same_version : (r : ℕ) → record_of c v r ≡ record_of c₁ v r
  pub same-key : (r : ℕ) → key_at c (version_of c v r) ≡ key_at c₁ (version_of c₁ v r)

-- of the transaction of number n, as long as it lives and has not installed; no other gets its number
pub record RemainsAt (c₁ : Chains) (v : Snapshot) (k n : ℕ) (s : Store) : Type 0 where
  pub number-pos : 1 ≤ n
  pub number-old : n < s.clock
  pub here : (i : ℕ) → (s.txns i).number ≡ n → rank (s.txns i).phase < phase_installed → Remains c₁ v k s.sizes s.chains (s.txns i)

module _ (c₁ : Chains) (v : Snapshot) (k n : ℕ) where
  -- one place goes on, and loses neither reads nor records
  remains-set : (s : Store) (i : ℕ) (x : Txn) → RemainsAt c₁ v k n s → x.number ≡ (s.txns i).number → x.snapshot ≡ (s.txns i).snapshot
      → (rank x.phase < phase_installed → rank (s.txns i).phase < phase_installed)
      → ((b : ℕ) → has_read (s.txns i).reads b ≡ true → has_read x.reads b ≡ true) → ((q : ReadRecord) → Among q (s.txns i).records → Among q x.records)
      → (j : ℕ) → (update s.txns i x j).number ≡ n → rank (update s.txns i x j).phase < phase_installed → Remains c₁ v k s.sizes s.chains
      (update s.txns i x j)
  remains-set s i x g e f h a b j = update-elim (λ y. y.number ≡ n → rank y.phase < phase_installed → Remains c₁ v k s.sizes s.chains y)
      s.txns i x j
      (λ d p q. let r = g.here i (sym e ∙ p) (h q) in record {
        snapshot-is = f ∙ r.snapshot-is;
        bucket-read = a _ r.bucket-read;
        records-keep = λ o u m. b _ (r.records-keep o u m);
        same_version = r.same_version;
        same-key = r.same-key;
      })
      (λ d p q. g.here j p q)

  -- one place is filled by another, or freed
  remains-other : (s : Store) (i : ℕ) (x : Txn) → RemainsAt c₁ v k n s → x.number ≢ n → (j : ℕ) → (update s.txns i x j).number ≡ n
      → rank (update s.txns i x j).phase < phase_installed → Remains c₁ v k s.sizes s.chains (update s.txns i x j)
  remains-other s i x g e j = update-elim (λ y. y.number ≡ n → rank y.phase < phase_installed → Remains c₁ v k s.sizes s.chains y) s.txns i x j
      (λ d p q. absurd (e p)) (λ d p q. g.here j p q)

  remains-install : (s : Store) (i : ℕ) → Good s → Good (installed s i) → RemainsAt c₁ v k n s → Live (s.txns i) → rank (s.txns i).phase ≡ phase_prepared
      → (j : ℕ) → ((installed s i).txns j).number ≡ n → rank ((installed s i).txns j).phase < phase_installed → Remains c₁ v k s.sizes (installed s i).chains
      ((installed s i).txns j)
  remains-install s i g g' w l a j = update-elim (λ y. y.number ≡ n → rank y.phase < phase_installed → Remains c₁ v k s.sizes (installed s i).chains y)
      s.txns i (with_phase (s.txns i) Installed) j
      (λ d p q. absurd (omega arith))
      (λ d p q. other j d p (w.here j p q))
    where
      gr : Grown (s.txns i) (version_rows s.sizes s.chains (s.txns i).writes) s.chains (installed s i).chains
      gr = installs s i g.chained

      other : (j : ℕ) → j ≢ i → (s.txns j).number ≡ n → Remains c₁ v k s.sizes s.chains (s.txns j)
          → Remains c₁ v k s.sizes (installed s i).chains (s.txns j)
      other j d p r =
          let unseen : seen v (s.txns i).number ≡ false =
          rw r.snapshot-is at (unseen-other s.clock s.txns g.numbers i j (λ e. d (sym e)) l (omega (arith, w.number-pos)) (omega arith)) in
          record {
            snapshot-is = r.snapshot-is;
            bucket-read = r.bucket-read;
            records-keep = r.records-keep;
            same_version = λ o. rw (
              xmin-grown (s.txns i) _ s.chains (installed s i).chains g.chained g'.chained gr v unseen o,
              version-grown (s.txns i) _ s.chains (installed s i).chains g.chained g'.chained gr v unseen o,
            ) (r.same_version o);
            same-key = λ o. key-grown (s.txns i) _ s.chains (installed s i).chains g.chained g'.chained gr v unseen o ∙ r.same-key o;
          }

  -- place by place
  here-move : (s s' : Store) {a : ℕ} → Good s → Good s' → RemainsAt c₁ v k n s → Move s a s' → (j : ℕ) → (s'.txns j).number ≡ n
      → rank (s'.txns j).phase < phase_installed → Remains c₁ v k s'.sizes s'.chains (s'.txns j)
  here-move s s' = go s'
    where
      go : {a : ℕ} (s' : Store) → Good s → Good s' → RemainsAt c₁ v k n s → Move s a s' → (j : ℕ) → (s'.txns j).number ≡ n
          → rank (s'.txns j).phase < phase_installed → Remains c₁ v k s'.sizes s'.chains (s'.txns j)
      go s' g g' w (stay i) = w.here
      go s' g g' w (did-begin i a b c d) = remains-other s i (new_txn s) w (λ e. omega (arith, w.number-old))
      go s' g g' w (did-mark i a b) = remains-set s i _ w refl refl (λ h. omega arith) (λ o h. h) (λ q m. m)
      go s' g g' w (did-capture i m a b c) = remains-set s i _ w refl refl (λ h. omega arith) (λ o h. add_read-keeps (s.txns i).reads _ _ o h) (λ q m. m)
      go s' g g' w (did-collect i a b) = remains-set s i _ w refl refl (λ h. omega arith) (λ o h. h) (λ q m. m)
      go s' g g' w (did-rows i a b c) =
          remains-set s i _ w refl refl (λ h. omega arith) (λ o h. h)
          (λ q m. record_all-keeps s.chains (s.txns i) (s.txns i).records (found_rows s (s.txns i)) q m)
      go s' g g' w (did_write i x a b c d) = remains-set s i _ w refl refl (λ h. omega arith) (λ o h. h) (λ q m. m)
      go s' g g' w (did-prepare i a b c) = remains-set s i _ w refl refl (λ h. omega arith) (λ o h. h) (λ q m. m)
      go s' g g' w (did-install i a b) = remains-install s i g g' w a b
      go s' g g' w (did-end i a b) = remains-set s i _ w refl refl (λ h. absurd (omega arith)) (λ o h. h) (λ q m. m)
      go s' g g' w (did-publish i a b) = remains-other s i no_txn w (λ e. omega (arith, w.number-pos))
      go s' g g' w (did-abort i a b) = remains-other s i no_txn w (λ e. omega (arith, w.number-pos))

  pub remains-move : (s s' : Store) {a : ℕ} → Good s → RemainsAt c₁ v k n s → Move s a s' → RemainsAt c₁ v k n s'
  remains-move s s' g w m =
      record { number-pos = w.number-pos; number-old = omega (arith, w.number-old, clock-move s s' m); here = here-move s s' g (good-move s s' g m) w m }

  pub remains-run : (s : Store) → Good s → RemainsAt c₁ v k n s → (more : List Step) → RemainsAt c₁ v k n (run s more)
  remains-run s g w more =
      (run-inv (λ s. Good s × RemainsAt c₁ v k n s) (λ s s' i p m. (good-move s s' p.0 m, remains-move s s' p.0 p.1 m)) s more (g, w)).1
