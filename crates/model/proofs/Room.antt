-- Room is kept: the clock with a publish for each live transaction fits, and so do the versions with those reserved. Assumes nothing.
use mathlib.Core.Path.{◌≡◌, refl, sym, ap, ◌∙◌}
use mathlib.Core.Bool.{Bool, true, false, cond, ◌&&◌}
use mathlib.Core.Logic.{◌≢◌}
use mathlib.Core.List.{List, [], ◌∷◌}
use Prim.Native.Nat.{ℕ, zero, suc, ◌+◌, ◌≤◌, ◌<◌}
use native.Mathlib.Omega.{arith}
use native.Mathlib.Decide.{ℕ_discrete}
use lib.Dec.{eqb}
use lib.ListN.{length}
use borrow.Author.Tests.{eq-eqb, ne_eqb}
use Rattle.base_limits.specs.Limits.{most_live, last_number}
use Rattle.base_lists.specs.Lists.{pick}
use Rattle.base_lists.specs.Table.{update}
use Rattle.base_lists.proofs.TableLaws.{update-elim}
use Rattle.model.specs.Store.{Sizes, Chains, Prepared, Installed, Txn, Store, no_txn, fresh, rank, phase_open, phase_prepared}
use Rattle.model.specs.Seeing.{key_at, last_write, live, Live}
use Rattle.model.specs.Steps.{with_phase, new_txn, old_key, new_key, version_rows, prepared, push, written_payload, push_all, installed}
use Rattle.model.specs.Refusals.{live_count, reserved_by, reserved, versions_after}
use Rattle.model.specs.Holding.{Writes}
use Rattle.model.proofs.Move.{live_test, Move, stay, did-begin, did-mark, did-capture, did-collect, did-rows, did_write, did-prepare, did-install}
use Rattle.model.proofs.Move.{did-end, did-publish, did-abort}
use Rattle.model.proofs.Chained.{Chained}
use Rattle.model.proofs.Numbers.{Numbers, in-place}
use Rattle.model.proofs.Holders.{HoldersAt, one-claim}
use Rattle.model.proofs.Made.{gets-writes, version_rows-same}
use Rattle.model.proofs.Grown.{Grown}
use Rattle.model.proofs.Written.{key_at-grown, installs}
use Rattle.model.proofs.Sums.{sum, sum_same, sum-set, sum-zero, one, picked}

pub record Room (z : Sizes) (clock : ℕ) (c : Chains) (t : ℕ → Txn) : Type 0 where
  pub numbers-left : clock + live_count t ≤ last_number
  pub versions-left : c.used + reserved z c t most_live ≤ z.versions

abbrev pub RoomAt : Store → Type 0
RoomAt s = Room s.sizes s.clock s.chains s.txns

-- one place changes: how many are live, and what they reserve
live-set : (t : ℕ → Txn) (i : ℕ) (x : Txn) → i < most_live → live_count (update t i x) + one (live (t i)) ≡ live_count t + one (live x)
unfolding live_count
live-set t i x l = rw (picked live (update t i x) most_live, picked live t most_live) (sum-set (λ y. one (live y)) t i x most_live l)

reserved-sum : (z : Sizes) (c : Chains) (t : ℕ → Txn) (n : ℕ) → reserved z c t n ≡ sum (reserved_by z c) t n
unfolding reserved sum
reserved-sum z c t zero = refl
reserved-sum z c t (suc n) = rw (reserved-sum z c t n)

reserved-set : (z : Sizes) (c : Chains) (t : ℕ → Txn) (i : ℕ) (x : Txn) (n : ℕ) → i < n
    → reserved z c (update t i x) n + reserved_by z c (t i) ≡ reserved z c t n + reserved_by z c x
reserved-set z c t i x n l = rw (reserved-sum z c (update t i x) n, reserved-sum z c t n) (sum-set (reserved_by z c) t i x n l)

-- what each reserves is the same over two chains
reserved-same : (z : Sizes) (c c' : Chains) (t : ℕ → Txn) (n : ℕ) → ((j : ℕ) → reserved_by z c' (t j) ≡ reserved_by z c (t j))
    → reserved z c' t n ≡ reserved z c t n
reserved-same z c c' t n h = rw (reserved-sum z c' t n, reserved-sum z c t n) (sum_same (reserved_by z c) (reserved_by z c') t t n (λ j l. h j))

-- who reserves nothing, all together, reserve nothing
pub reserved-none : (z : Sizes) (c : Chains) (t : ℕ → Txn) (n : ℕ) → ((j : ℕ) → reserved_by z c (t j) ≡ 0) → reserved z c t n ≡ 0
reserved-none z c t n h = reserved-sum z c t n ∙ sum-zero (reserved_by z c) t n h

pub reserves-none : (z : Sizes) (c : Chains) (x : Txn) → rank x.phase ≢ phase_prepared → reserved_by z c x ≡ 0
unfolding reserved_by
reserves-none z c x d = rw (ne_eqb (rank x.phase) phase_prepared d) (go (live x))
  where
    go : (b : Bool) → cond (b && false) (length (version_rows z c x.writes)) 0 ≡ 0
    go true = refl
    go false = refl

pub reserves : (z : Sizes) (c : Chains) (x : Txn) → Live x → rank x.phase ≡ phase_prepared → reserved_by z c x ≡ length (version_rows z c x.writes)
unfolding reserved_by
reserves z c x l e = rw (live_test x l, eq-eqb (rank x.phase) phase_prepared e)

pub used-pushAll : (x : Txn) (rs : List ℕ) (c : Chains) → (push_all x rs c).used ≡ c.used + length rs
unfolding push_all
used-pushAll x [] c = omega arith
used-pushAll x (r ∷ rs) c = omega (arith, used-pushAll x rs (push x.number r (new_key x r) (written_payload (last_write x.writes r)) c))

-- one place changes, and takes no more than it had
room-set : (z : Sizes) (clock clock' : ℕ) (c : Chains) (t : ℕ → Txn) (i : ℕ) (x : Txn) → i < most_live → clock' + one (live x) ≤ clock + one (live (t i))
    → reserved_by z c x ≤ reserved_by z c (t i)
    → Room z clock c t → Room z clock' c (update t i x)
room-set z clock clock' c t i x l a b g = record {
  numbers-left = omega (arith, g.numbers-left, live-set t i x l);
  versions-left = omega (arith, g.versions-left, reserved-set z c t i x most_live l);
}

module _ (s : Store) (i : ℕ) (n : Numbers s.clock s.txns) (g : RoomAt s) (a : Live (s.txns i)) where
  here : i < most_live
  here = in-place s.clock s.txns n i a

  -- neither before nor after Prepared
  room-quiet : (x : Txn) → x.number ≡ (s.txns i).number → rank (s.txns i).phase ≢ phase_prepared → rank x.phase ≢ phase_prepared
      → Room s.sizes s.clock s.chains (update s.txns i x)
  room-quiet x e p q = room-set _ _ _ s.chains s.txns i x here (rw e (omega arith))
      (omega (arith, reserves-none s.sizes s.chains x q, reserves-none s.sizes s.chains (s.txns i) p)) g

  -- the record ends
  room-free : (clock' : ℕ) → clock' ≤ suc s.clock → Room s.sizes clock' s.chains (update s.txns i no_txn)
  room-free clock' h = room-set _ _ _ s.chains s.txns i no_txn here (omega (arith, ap one (live_test (s.txns i) a)))
      (omega (arith, reserves-none s.sizes s.chains no_txn (λ e. omega arith))) g

  room-prepare : rank (s.txns i).phase ≡ phase_open → versions_after s (s.txns i) ≤ s.sizes.versions → RoomAt (prepared s i)
  room-prepare r h = let x = with_phase (s.txns i) Prepared in record {
    numbers-left = omega (arith, g.numbers-left, live-set s.txns i x here);
    versions-left = omega (
      arith,
      reserved-set s.sizes s.chains s.txns i x most_live here,
      reserves s.sizes s.chains x a refl,
      reserves-none s.sizes s.chains (s.txns i) (λ e. omega arith),
    );
  }

  -- what another reserved, it still reserves: its rows are not mine
  others-reserve : Chained s.chains → HoldersAt s → rank (s.txns i).phase ≡ phase_prepared → (j : ℕ)
      → reserved_by s.sizes (installed s i).chains ((installed s i).txns j) ≡ reserved_by s.sizes s.chains ((installed s i).txns j)
  unfolding reserved_by
  others-reserve ch h r j =
      update-elim (λ y. reserved_by s.sizes (installed s i).chains y ≡ reserved_by s.sizes s.chains y) s.txns i (with_phase (s.txns i) Installed) j
      (λ e. reserves-none s.sizes (installed s i).chains (with_phase (s.txns i) Installed) (λ f. omega arith)
      ∙ sym (reserves-none s.sizes s.chains (with_phase (s.txns i) Installed) (λ f. omega arith)))
      (λ d. elim (ℕ_discrete (rank (s.txns j).phase) phase_prepared) [
        | yes e ↦ same d e
        | no f ↦ reserves-none s.sizes (installed s i).chains (s.txns j) f ∙ sym (reserves-none s.sizes s.chains (s.txns j) f)
      ])
    where
      gr : Grown (s.txns i) (version_rows s.sizes s.chains (s.txns i).writes) s.chains (installed s i).chains
      gr = installs s i ch

      old : j ≢ i → rank (s.txns j).phase ≡ phase_prepared → (q : ℕ) → Writes s.sizes (s.txns j) q
          → old_key (installed s i).chains q ≡ old_key s.chains q
      old d e q w =
          let f = gr.head-old q (λ m. d (one-claim s i n h j i q (omega arith, w) (omega arith, gets-writes s.sizes s.chains (s.txns i) q m))) in
          ap (key_at (installed s i).chains) f ∙ key_at-grown _ _ _ _ gr (s.chains.head q) (ch.heads-in q)

      same : j ≢ i → rank (s.txns j).phase ≡ phase_prepared
          → reserved_by s.sizes (installed s i).chains (s.txns j) ≡ reserved_by s.sizes s.chains (s.txns j)
      same d e = ap (λ rs. cond (live (s.txns j) && eqb (rank (s.txns j).phase) phase_prepared) (length rs) 0)
          (version_rows-same s.sizes s.chains (installed s i).chains (s.txns j) (old d e))

  room-install : Chained s.chains → HoldersAt s → rank (s.txns i).phase ≡ phase_prepared → RoomAt (installed s i)
  room-install ch h r = let x = with_phase (s.txns i) Installed in record {
    numbers-left = omega (arith, g.numbers-left, live-set s.txns i x here);
    versions-left = omega (
      arith,
      g.versions-left,
      reserved-same s.sizes s.chains (installed s i).chains (installed s i).txns most_live (others-reserve ch h r),
      reserved-set s.sizes s.chains s.txns i x most_live here,
      reserves-none s.sizes s.chains x (λ e. omega arith),
      reserves s.sizes s.chains (s.txns i) a r,
      used-pushAll (s.txns i) (version_rows s.sizes s.chains (s.txns i).writes) s.chains,
    );
  }

pub room-move : (s s' : Store) {a : ℕ} → Chained s.chains → Numbers s.clock s.txns → HoldersAt s → RoomAt s → Move s a s' → RoomAt s'
room-move s s' = go s'
  where
    go : {a : ℕ} (s' : Store) → Chained s.chains → Numbers s.clock s.txns → HoldersAt s → RoomAt s → Move s a s' → RoomAt s'
    go s' ch n h g (stay i) = g
    go s' ch n h g (did-begin i a b c d) = record {
      numbers-left = omega (arith, live-set s.txns i (new_txn s) a, ap one (live_test (new_txn s) n.clock-pos));
      versions-left = omega (
        arith,
        g.versions-left,
        reserved-set s.sizes s.chains s.txns i (new_txn s) most_live a,
        reserves-none s.sizes s.chains (new_txn s) (λ e. omega arith),
      );
    }
    go s' ch n h g (did-mark i a b) = room-quiet s i n g a _ refl (λ e. omega arith) (λ e. omega arith)
    go s' ch n h g (did-capture i k a b c) = room-quiet s i n g a _ refl (λ e. omega arith) (λ e. omega arith)
    go s' ch n h g (did-collect i a b) = room-quiet s i n g a _ refl (λ e. omega arith) (λ e. omega arith)
    go s' ch n h g (did-rows i a b c) = room-quiet s i n g a _ refl (λ e. omega arith) (λ e. omega arith)
    go s' ch n h g (did_write i w a b c d) = room-quiet s i n g a _ refl (λ e. omega arith) (λ e. omega arith)
    go s' ch n h g (did-prepare i a b c) = room-prepare s i n g a b c.room
    go s' ch n h g (did-install i a b) = room-install s i n g a ch h b
    go s' ch n h g (did-end i a b) = room-quiet s i n g a _ refl (λ e. omega arith) (λ e. omega arith)
    go s' ch n h g (did-publish i a b) = room-free s i n g a (suc s.clock) (omega arith)
    go s' ch n h g (did-abort i a b) = room-free s i n g a s.clock (omega arith)

pub room-fresh : (z : Sizes) (clock : ℕ) → clock ≤ last_number → RoomAt (fresh z clock)
unfolding live_count reserved reserved_by pick
room-fresh z clock h = record { numbers-left = omega arith; versions-left = omega arith }
