-- Numbers: the clock is above every number in use, live numbers differ, and a snapshot knows every other live one that had not ended. Assumes nothing.
use mathlib.Core.Path.{◌≡◌, refl}
use mathlib.Core.Bool.{Bool, true, false}
use mathlib.Core.Option.{Option}
use Prim.Native.Nat.{ℕ, suc, ◌≤◌, ◌<◌}
use native.Mathlib.Omega.{arith}
use lib.Dec.{ltb}
use lib.ListN.{length, length-map}
use borrow.Author.Tests.{ltb-true, ltb-false, lt-ltb}
use Rattle.base_limits.specs.Limits.{most_live, most_active}
use Rattle.base_lists.specs.Lists.{least, pick, Among}
use Rattle.base_lists.specs.Table.{update}
use Rattle.base_lists.proofs.TableLaws.{update-elim, update_all-elim}
use Rattle.base_lists.proofs.ListLaws.{and_l, and_r, and_both, among-map, map-among, pick-which, which-pick, pick-fewer}
use Rattle.model.specs.Store.{Chains, Snapshot, Txn, Store, Sizes, no_txn, fresh, rank, phase_open, phase_prepared, phase_installed, phase_ended}
use Rattle.model.specs.Seeing.{live, active, active_numbers, Live}
use Rattle.model.specs.Steps.{new_txn, begun, push, changed_buckets, version_rows}
use Rattle.model.specs.Refusals.{live_count}
use Rattle.model.proofs.Move.{live_test, test_live, Move, stay, did-begin, did-mark, did-capture, did-collect, did-rows, did_write, did-prepare}
use Rattle.model.proofs.Move.{did-install, did-end, did-publish, did-abort}
use Rattle.model.proofs.Chained.{push_all-all}

-- the snapshot of a transaction of number n
pub record Snapped (n : ℕ) (v : Snapshot) : Type 0 where
  pub xmax-is : v.xmax ≡ suc n
  pub xmin-is : v.xmin ≡ least n v.active
  pub active-below : (m : ℕ) → Among m v.active → m < n
  pub active-few : length v.active ≤ most_active

pub record Numbers (clock : ℕ) (t : ℕ → Txn) : Type 0 where
  pub clock-pos : 1 ≤ clock
  pub below : (i : ℕ) → (t i).number < clock
  -- places from 8 on are free, and a free place holds nothing
  pub beyond : (i : ℕ) → most_live ≤ i → (t i).number ≡ 0
  pub idle : (i : ℕ) → (t i).number ≡ 0 → rank (t i).phase ≡ phase_open
  pub distinct : (i j : ℕ) → Live (t i) → (t i).number ≡ (t j).number → i ≡ j
  pub snapped : (i : ℕ) → Live (t i) → Snapped (t i).number (t i).snapshot
  -- every live transaction with a smaller number that has not ended is in the active list of a later one
  pub knows : (i j : ℕ) → Live (t i) → Live (t j) → (t j).number < (t i).number → rank (t j).phase < phase_ended → Among (t j).number (t i).snapshot.active

-- a place in use is one of the eight
pub in-place : (c : ℕ) (t : ℕ → Txn) → Numbers c t → (j : ℕ) → Live (t j) → j < most_live
in-place c t g j q = go (ltb j most_live) refl
  where
    go : (b : Bool) → ltb j most_live ≡ b → j < most_live
    go true e = ltb-true j most_live e
    go false e = absurd (omega (arith, g.beyond j (ltb-false j most_live e)))

-- the frame of every move but `begin`, place by place
pub record Kept (t t' : ℕ → Txn) : Type 0 where
  pub number-le : (j : ℕ) → (t' j).number ≤ (t j).number
  pub number : (j : ℕ) → Live (t' j) → (t' j).number ≡ (t j).number
  pub snapshot : (j : ℕ) → Live (t' j) → (t' j).snapshot ≡ (t j).snapshot
  pub idle : (j : ℕ) → ((t j).number ≡ 0 → rank (t j).phase ≡ phase_open) → (t' j).number ≡ 0 → rank (t' j).phase ≡ phase_open
  pub running : (j : ℕ) → Live (t' j) → rank (t' j).phase < phase_ended → rank (t j).phase < phase_ended
  pub late : (j : ℕ) → Live (t' j) → phase_installed ≤ rank (t j).phase → phase_installed ≤ rank (t' j).phase
  pub wrote : (j : ℕ) → Live (t' j) → phase_prepared ≤ rank (t j).phase → (t' j).writes ≡ (t j).writes

pub kept-all : (t : ℕ → Txn) → Kept t t
kept-all t = record {
  number-le = λ j. omega arith;
  number = λ j l. refl;
  snapshot = λ j l. refl;
  idle = λ j h. h;
  running = λ j l h. h;
  late = λ j l h. h;
  wrote = λ j l h. refl;
}

-- a live transaction goes on
pub kept_set : (t : ℕ → Txn) (i : ℕ) (x : Txn) → x.number ≡ (t i).number → x.snapshot ≡ (t i).snapshot → Live (t i)
    → (rank x.phase < phase_ended → rank (t i).phase < phase_ended) → (phase_installed ≤ rank (t i).phase → phase_installed ≤ rank x.phase) →
    (phase_prepared ≤ rank (t i).phase → x.writes ≡ (t i).writes) → Kept t (update t i x)
kept_set t i x n v l r p w = record {
  number-le = λ j. update-elim (λ y. y.number ≤ (t j).number) t i x j (λ e. rw e (omega arith)) (λ d. omega arith);
  number = λ j. update-elim (λ y. Live y → y.number ≡ (t j).number) t i x j (λ e q. rw e n) (λ d q. refl);
  snapshot = λ j. update-elim (λ y. Live y → y.snapshot ≡ (t j).snapshot) t i x j (λ e q. rw e v) (λ d q. refl);
  idle = λ j h. update-elim (λ y. y.number ≡ 0 → rank y.phase ≡ phase_open) t i x j (λ e q. absurd (omega arith)) (λ d q. h q);
  running = λ j. update-elim (λ y. Live y → rank y.phase < phase_ended → rank (t j).phase < phase_ended) t i x j (λ e q h. rw e (r h)) (λ d q h. h);
  late = λ j. update-elim (λ y. Live y → phase_installed ≤ rank (t j).phase → phase_installed ≤ rank y.phase) t i x j (λ e q h. p (rw e at h)) (λ d q h. h);
  wrote = λ j. update-elim (λ y. Live y → phase_prepared ≤ rank (t j).phase → y.writes ≡ (t j).writes) t i x j (λ e q h. rw e (w (rw e at h))) (λ d q h. refl);
}

-- a record ends
pub kept_free : (t : ℕ → Txn) (i : ℕ) → Kept t (update t i no_txn)
kept_free t i = record {
  number-le = λ j. update-elim (λ y. y.number ≤ (t j).number) t i no_txn j (λ e. omega arith) (λ d. omega arith);
  number = λ j. update-elim (λ y. Live y → y.number ≡ (t j).number) t i no_txn j (λ e q. absurd (omega arith)) (λ d q. refl);
  snapshot = λ j. update-elim (λ y. Live y → y.snapshot ≡ (t j).snapshot) t i no_txn j (λ e q. absurd (omega arith)) (λ d q. refl);
  idle = λ j h. update-elim (λ y. y.number ≡ 0 → rank y.phase ≡ phase_open) t i no_txn j (λ e q. refl) (λ d q. h q);
  running = λ j. update-elim (λ y. Live y → rank y.phase < phase_ended → rank (t j).phase < phase_ended) t i no_txn j (λ e q h. absurd (omega arith))
      (λ d q h. h);
  late = λ j. update-elim (λ y. Live y → phase_installed ≤ rank (t j).phase → phase_installed ≤ rank y.phase) t i no_txn j (λ e q h. absurd (omega arith))
      (λ d q h. h);
  wrote = λ j. update-elim (λ y. Live y → phase_prepared ≤ rank (t j).phase → y.writes ≡ (t j).writes) t i no_txn j (λ e q h. absurd (omega arith))
      (λ d q h. refl);
}

pub data Numbering (s s' : Store) : Type 0 where
  began : (i : ℕ) → s' ≡ begun s i → i < most_live → (s.txns i).number ≡ 0 → live_count s.txns < most_live → Numbering s s'
  kept : Kept s.txns s'.txns → s.clock ≤ s'.clock → Numbering s s'

pub numbering : (s s' : Store) {a : ℕ} → Move s a s' → Numbering s s'
numbering s s' = go s'
  where
    go : {a : ℕ} (s' : Store) → Move s a s' → Numbering s s'
    go s' (stay i) = kept (kept-all s.txns) (omega arith)
    go s' (did-begin i a b c d) = began i refl a b c
    go s' (did-mark i a b) = kept (kept_set s.txns i _ refl refl a (λ h. omega arith) (λ h. omega arith) (λ h. refl)) (omega arith)
    go s' (did-capture i k a b c) = kept (kept_set s.txns i _ refl refl a (λ h. omega arith) (λ h. omega arith) (λ h. refl)) (omega arith)
    go s' (did-collect i a b) = kept (kept_set s.txns i _ refl refl a (λ h. omega arith) (λ h. omega arith) (λ h. refl)) (omega arith)
    go s' (did-rows i a b c) = kept (kept_set s.txns i _ refl refl a (λ h. omega arith) (λ h. omega arith) (λ h. refl)) (omega arith)
    go s' (did_write i w a b c d) =
        kept (kept_set s.txns i _ refl refl a (λ h. omega arith) (λ h. omega arith) (λ h. absurd (omega arith))) (omega arith)
    go s' (did-prepare i a b c) = kept (kept_set s.txns i _ refl refl a (λ h. omega arith) (λ h. omega arith) (λ h. refl)) (omega arith)
    go s' (did-install i a b) = kept (kept_set s.txns i _ refl refl a (λ h. omega arith) (λ h. omega arith) (λ h. refl)) (omega arith)
    go s' (did-end i a b) = kept (kept_set s.txns i _ refl refl a (λ h. omega arith) (λ h. omega arith) (λ h. refl)) (omega arith)
    go s' (did-publish i a b) = kept (kept_free s.txns i) (omega arith)
    go s' (did-abort i a b) = kept (kept_free s.txns i) (omega arith)

-- the clock never falls
pub clock-move : (s s' : Store) {a : ℕ} → Move s a s' → s.clock ≤ s'.clock
clock-move s s' m = go (numbering s s' m)
  where
    go : Numbering s s' → s.clock ≤ s'.clock
    go (began i e a b c) = rw e (omega arith)
    go (kept p l) = l

-- the active numbers are those of the live transactions that have not ended
pub active-which : (t : ℕ → Txn) (n : ℕ) → Among n (active_numbers t)
    → (j : ℕ) × (j < most_live) × Live (t j) × (rank (t j).phase < phase_ended) × (n ≡ (t j).number)
unfolding active_numbers
active-which t n m =
    let w = map-among (λ i. (t i).number) (pick (λ i. active (t i)) 0 most_live) n m in
    let p = pick-which (λ i. active (t i)) 0 most_live w.0 w.1 in
    (w.0, p.1, test_live (t w.0) (and_l (live (t w.0)) _ p.2), ltb-true _ _ (and_r (live (t w.0)) _ p.2), w.2)

pub which-active : (t : ℕ → Txn) (j : ℕ) → j < most_live → Live (t j) → rank (t j).phase < phase_ended → Among (t j).number (active_numbers t)
unfolding active_numbers
which-active t j l p r = among-map (λ i. (t i).number) (pick (λ i. active (t i)) 0 most_live) j
    (which-pick (λ i. active (t i)) 0 most_live j (omega arith) (omega arith) (and_both _ _ (live_test (t j) p) (lt-ltb _ _ r)))

active-few : (t : ℕ → Txn) → live_count t < most_live → length (active_numbers t) ≤ most_active
unfolding active_numbers live_count
active-few t h = rw (length-map (pick (λ i. active (t i)) 0 most_live) (λ i. (t i).number))
    (omega (arith, pick-fewer (λ i. active (t i)) (λ i. live (t i)) 0 most_live (λ r e. and_l (live (t r)) (ltb (rank (t r).phase) phase_ended) e)))

module _ (s : Store) (i : ℕ) (g : Numbers s.clock s.txns) (l : i < most_live) (few : live_count s.txns < most_live) where
  begun-distinct : (a b : ℕ) → Live ((begun s i).txns a) → ((begun s i).txns a).number ≡ ((begun s i).txns b).number → a ≡ b
  begun-distinct a b = update-elim (λ y. Live y → y.number ≡ ((begun s i).txns b).number → a ≡ b) s.txns i (new_txn s) a
      (λ e p. update-elim (λ y. s.clock ≡ y.number → a ≡ b) s.txns i (new_txn s) b (λ f q. omega arith) (λ f q. absurd (omega (arith, g.below b))))
      (λ d p. update-elim (λ y. (s.txns a).number ≡ y.number → a ≡ b) s.txns i (new_txn s) b (λ f q. absurd (omega (arith, g.below a)))
      (λ f q. g.distinct a b p q))

  new-snapped : Snapped s.clock (new_txn s).snapshot
  new-snapped = record {
    xmax-is = refl;
    xmin-is = refl;
    active-below = λ m h. let w = active-which s.txns m h in omega (arith, g.below w.0, w.4);
    active-few = active-few s.txns few;
  }

  begun-knows : (a b : ℕ) → Live ((begun s i).txns a) → Live ((begun s i).txns b) → ((begun s i).txns b).number < ((begun s i).txns a).number
      → rank ((begun s i).txns b).phase < phase_ended
      → Among ((begun s i).txns b).number ((begun s i).txns a).snapshot.active
  begun-knows a b =
      update-elim (λ y. Live y → Live ((begun s i).txns b) → ((begun s i).txns b).number < y.number → rank ((begun s i).txns b).phase < phase_ended
      → Among ((begun s i).txns b).number y.snapshot.active) s.txns i (new_txn s) a
      (λ e p. update-elim (λ y. Live y → y.number < s.clock → rank y.phase < phase_ended → Among y.number (active_numbers s.txns)) s.txns i
      (new_txn s) b
      (λ f q u r. absurd (omega arith))
      (λ f q u r. which-active s.txns b (in-place s.clock s.txns g b q) q r))
      (λ d p. update-elim (λ y. Live y → y.number < (s.txns a).number → rank y.phase < phase_ended → Among y.number (s.txns a).snapshot.active)
      s.txns i (new_txn s) b
      (λ f q u r. absurd (omega (arith, g.below a)))
      (λ f q u r. g.knows a b p q u r))

  numbers-begun : Numbers (suc s.clock) (begun s i).txns
  numbers-begun = record {
    clock-pos = omega arith;
    below = λ j. update-elim (λ y. y.number < suc s.clock) s.txns i (new_txn s) j (λ e. omega arith) (λ d. omega (arith, g.below j));
    beyond = λ j h. update-elim (λ y. y.number ≡ 0) s.txns i (new_txn s) j (λ e. absurd (omega arith)) (λ d. g.beyond j h);
    idle = λ j. update-elim (λ y. y.number ≡ 0 → rank y.phase ≡ phase_open) s.txns i (new_txn s) j (λ e q. refl) (λ d q. g.idle j q);
    distinct = begun-distinct;
    snapped = λ j. update-elim (λ y. Live y → Snapped y.number y.snapshot) s.txns i (new_txn s) j (λ e q. new-snapped) (λ d q. g.snapped j q);
    knows = begun-knows;
  }

numbers-kept : (c c' : ℕ) (t t' : ℕ → Txn) → Kept t t' → c ≤ c' → Numbers c t → Numbers c' t'
numbers-kept c c' t t' k h g = record {
  clock-pos = omega (arith, g.clock-pos);
  below = λ j. omega (arith, k.number-le j, g.below j);
  beyond = λ j q. omega (arith, k.number-le j, g.beyond j q);
  idle = λ j q. k.idle j (g.idle j) q;
  distinct = λ i j p q. g.distinct i j (alive i p) (omega (arith, k.number i p, k.number j (omega arith)));
  snapped = λ j p. rw (k.number j p, k.snapshot j p) (g.snapped j (alive j p));
  knows = λ i j p q u r. rw (k.number j q, k.snapshot i p)
      (g.knows i j (alive i p) (alive j q) (omega (arith, k.number i p, k.number j q)) (k.running j q r));
}
  where
    alive : (j : ℕ) → Live (t' j) → Live (t j)
    alive j p = omega (arith, k.number j p)

numbers-via : (s s' : Store) → Numbers s.clock s.txns → Numbering s s' → Numbers s'.clock s'.txns
numbers-via s s' g (began i e a b c) = rw e (numbers-begun s i g a c)
numbers-via s s' g (kept k c) = numbers-kept s.clock s'.clock s.txns s'.txns k c g

pub numbers-move : (s s' : Store) {a : ℕ} → Numbers s.clock s.txns → Move s a s' → Numbers s'.clock s'.txns
numbers-move s s' g m = numbers-via s s' g (numbering s s' m)

pub numbers-fresh : (z : Sizes) (clock : ℕ) → 1 ≤ clock → Numbers clock (fresh z clock).txns
numbers-fresh z clock h = record {
  clock-pos = h;
  below = λ i. omega arith;
  beyond = λ i q. refl;
  idle = λ i q. refl;
  distinct = λ i j p q. absurd (omega arith);
  snapped = λ i p. absurd (omega arith);
  knows = λ i j p q u r. absurd (omega arith);
}

-- what the tables hold is below the clock
pub record Below (clock : ℕ) (c : Chains) (stamp : ℕ → ℕ) : Type 0 where
  pub xmin-below : (p : ℕ) → c.xmin p < clock
  pub xmax-below : (p : ℕ) → c.xmax p < clock
  pub stamp-below : (b : ℕ) → stamp b < clock

abbrev pub BelowAt : Store → Type 0
BelowAt s = Below s.clock s.chains s.index.stamp

abbrev Low : ℕ → Chains → Type 0
Low top c = ((p : ℕ) → c.xmin p < top) × ((p : ℕ) → c.xmax p < top)

low-push : (top n : ℕ) → n < top → (r : ℕ) (k : Option ℕ) (payload : ℕ) (c : Chains) → Low top c → Low top (push n r k payload c)
low-push top n h r k payload c g = (
  (λ p. update-elim (◌< top) c.xmin _ n p (λ e. h) (λ d. g.0 p)),
  (λ p. update-elim (◌< top) (update c.xmax (suc c.used) 0) _ n p (λ e. h) (λ d. update-elim (◌< top) c.xmax _ 0 p (λ e. omega arith) (λ f. g.1 p))),
)

below_up : (s : Store) (stamp : ℕ → ℕ) → BelowAt s → ((b : ℕ) → stamp b ≤ s.clock) → Below (suc s.clock) s.chains stamp
below_up s stamp g h = record {
  xmin-below = λ p. omega (arith, g.xmin-below p);
  xmax-below = λ p. omega (arith, g.xmax-below p);
  stamp-below = λ b. omega (arith, h b);
}

pub below-move : (s s' : Store) {a : ℕ} → Numbers s.clock s.txns → BelowAt s → Move s a s' → BelowAt s'
below-move s s' = go s'
  where
    go : {a : ℕ} (s' : Store) → Numbers s.clock s.txns → BelowAt s → Move s a s' → BelowAt s'
    go s' n g (stay i) = g
    go s' n g (did-begin i a b c d) = below_up s s.index.stamp g (λ b. omega (arith, g.stamp-below b))
    go s' n g (did-mark i a b) = g
    go s' n g (did-capture i k a b c) = g
    go s' n g (did-collect i a b) = g
    go s' n g (did-rows i a b c) = g
    go s' n g (did_write i w a b c d) = g
    go s' n g (did-prepare i a b c) = g
    go s' n g (did-install i a b) =
        let l : Low s.clock s'.chains =
        push_all-all (Low s.clock) (s.txns i) (low-push s.clock (s.txns i).number (n.below i))
        (version_rows s.sizes s.chains (s.txns i).writes) s.chains (g.xmin-below, g.xmax-below) in
        record { xmin-below = l.0; xmax-below = l.1; stamp-below = g.stamp-below }
    go s' n g (did-end i a b) = g
    go s' n g (did-publish i a b) =
        below_up s _ g (λ b. update_all-elim (◌≤ s.clock) s.index.stamp (changed_buckets s (s.txns i)) _ b (λ e. omega (arith, n.below i))
        (λ e. omega (arith, g.stamp-below b)))
    go s' n g (did-abort i a b) = g

pub below-fresh : (z : Sizes) (clock : ℕ) → 1 ≤ clock → BelowAt (fresh z clock)
below-fresh z clock h = record { xmin-below = λ p. h; xmax-below = λ p. h; stamp-below = λ b. h }
