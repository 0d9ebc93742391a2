-- All that holds of every store that steps reach from a fresh one; so its shape is right, and no step there is refused for it. Assumes nothing.
use mathlib.Core.Path.{◌≡◌, refl, ◌∙◌}
use mathlib.Core.Bool.{Bool, true, false, not, ◌&&◌, ◌||◌}
use mathlib.Core.Logic.{⊎_elim}
use mathlib.Core.List.{List}
use Prim.Native.Nat.{ℕ, suc, ◌≤◌}
use native.Mathlib.Omega.{arith}
use lib.Dec.{ltb, leb}
use borrow.Author.Tests.{eq-eqb, ne_eqb, lt-ltb, le-leb, ltb-false, leb-true}
use Rattle.base_limits.specs.Limits.{most_live, last_number}
use Rattle.base_lists.specs.Lists.{all_of}
use Rattle.base_lists.proofs.ListLaws.{and_l, and_r, and_both, none_each, each_all, every-each, or_left, or_right}
use Rattle.model.specs.Store.{Sizes, IndexRead, Write, ReadRecord, Txn, Store, fresh, rank, phase_open, phase_installed}
use Rattle.model.specs.Seeing.{live, Live}
use Rattle.model.specs.Steps.{pending_rows, gets_version, headed_by}
use Rattle.model.specs.Refusals.{Step}
use Rattle.model.specs.Shape.{within, good_sizes, good_chains, good_counts, good_ranges, good_heads, good_txn, distinct_numbers, right_shape}
use Rattle.model.specs.Machine.{step, step_in, run, can_open}
use Rattle.model.specs.Holding.{Writes, Claims, Made}
use Rattle.model.proofs.Move.{test_live, CanPrepare, Move, stay, did-begin, did-mark, did-capture, did-collect, did-rows, did_write, did-prepare}
use Rattle.model.proofs.Move.{did-install, did-end, did-publish, did-abort}
use Rattle.model.proofs.Moving.{run-inv}
use Rattle.model.proofs.Chained.{Chained, chained-move, chained-fresh}
use Rattle.model.proofs.Numbers.{Numbers, numbers-move, numbers-fresh, BelowAt, below-move, below-fresh}
use Rattle.model.proofs.Owned.{free}
use Rattle.model.proofs.Holders.{claims-busy, HoldersAt, holders-move, holders-fresh}
use Rattle.model.proofs.Made.{made-head, no-gets}
use Rattle.model.proofs.Written.{WrittenAt, posted-free, written-move, written-fresh}
use Rattle.model.proofs.Room.{RoomAt, room-move, room-fresh}
use Rattle.model.proofs.Ranges.{good-sized, RangesAt, ranges-move, ranges-fresh}
use Rattle.model.proofs.Told.{ToldAt, told_move, told_fresh}
use Rattle.model.proofs.Reading.{ReadingAt, reading-move, reading-fresh}

pub record Good (s : Store) : Type 0 where
  pub sizes : good_sizes s.sizes ≡ true
  pub chained : Chained s.chains
  pub numbers : Numbers s.clock s.txns
  pub below : BelowAt s
  pub room : RoomAt s
  pub ranges : RangesAt s
  pub holders : HoldersAt s
  pub written : WrittenAt s
  pub told : ToldAt s
  pub reading : ReadingAt s

pub sizes-move : (s s' : Store) {a : ℕ} → Move s a s' → s'.sizes ≡ s.sizes
sizes-move s s' = go s'
  where
    go : {a : ℕ} (s' : Store) → Move s a s' → s'.sizes ≡ s.sizes
    go s' (stay i) = refl
    go s' (did-begin i a b c d) = refl
    go s' (did-mark i a b) = refl
    go s' (did-capture i k a b c) = refl
    go s' (did-collect i a b) = refl
    go s' (did-rows i a b c) = refl
    go s' (did_write i w a b c d) = refl
    go s' (did-prepare i a b c) = refl
    go s' (did-install i a b) = refl
    go s' (did-end i a b) = refl
    go s' (did-publish i a b) = refl
    go s' (did-abort i a b) = refl

-- at an accepted prepare the pending rows are claimed by nobody, so they are posted with their old keys
unclaimed : (s : Store) → Good s → (i r : ℕ) → Live (s.txns i) → rank (s.txns i).phase ≡ phase_open → CanPrepare s i → Writes s.sizes (s.txns i) r
    → s.held.claim r ≡ 0
unclaimed s g i r l a c w =
    free (Claims s.sizes) (claims-busy s.sizes) s.held.claim s.clock s.txns g.numbers g.holders.claims i r l
    (λ v. omega (arith, v.0)) (none_each _ (pending_rows s.sizes (s.txns i).writes) c.rows-free r w)

pub good-move : (s s' : Store) {a : ℕ} → Good s → Move s a s' → Good s'
good-move s s' g m =
    let ch = chained-move s s' g.chained m in
    record {
      sizes = rw (sizes-move s s' m) g.sizes;
      chained = ch;
      numbers = numbers-move s s' g.numbers m;
      below = below-move s s' g.numbers g.below m;
      room = room-move s s' g.chained g.numbers g.holders g.room m;
      ranges = ranges-move s s' (good-sized s.sizes g.sizes) g.ranges m;
      holders = holders-move s s' g.numbers g.holders
          (λ i r l a c w. posted-free s g.numbers g.holders g.written r (unclaimed s g i r l a c w)) m;
      written = written-move s s' g.chained g.numbers g.below g.holders g.written m;
      told = told_move s s' g.chained g.numbers g.below g.written g.told m;
      reading = reading-move s s' g.chained ch g.numbers g.holders g.written g.told g.reading m;
    }

pub good-fresh : (z : Sizes) (clock : ℕ) → good_sizes z ≡ true → 1 ≤ clock → clock ≤ last_number → Good (fresh z clock)
good-fresh z clock e l u = record {
  sizes = e;
  chained = chained-fresh z clock;
  numbers = numbers-fresh z clock l;
  below = below-fresh z clock l;
  room = room-fresh z clock u;
  ranges = ranges-fresh z clock (good-sized z e);
  holders = holders-fresh z clock;
  written = written-fresh z clock;
  told = told_fresh z clock;
  reading = reading-fresh z clock;
}

pub good-run : (s : Store) → Good s → (more : List Step) → Good (run s more)
good-run s g more = run-inv Good (λ s s' i g m. good-move s s' g m) s more g

-- the shape's tests, one after another
chains-shape : (s : Store) → Good s → good_chains s.sizes s.chains ≡ true
unfolding good_chains
chains-shape s g = and_both _ _
    (and_both _ _
    (le-leb s.chains.used s.sizes.versions (omega (arith, g.room.versions-left)))
    (every-each s.sizes.rows (λ r. leb (s.chains.head r) s.chains.used) (λ r l. le-leb _ _ (g.chained.heads-in r))))
    (every-each s.chains.used (λ p. ltb (s.chains.next (suc p)) (suc p)) (λ p l. lt-ltb _ _ (g.chained.next-falls (suc p) (omega arith) (omega arith))))

module _ (s : Store) (g : Good s) (i : ℕ) (l : Live (s.txns i)) where
  counts-shape : good_counts (s.txns i) ≡ true
  unfolding good_counts
  counts-shape = let f = (g.ranges i).0 in
      and_both _ _ (and_both _ _
      (and_both _ _ (and_both _ _ (le-leb _ _ (g.numbers.snapped i l).active-few) (le-leb _ _ f.reads-few)) (le-leb _ _ f.writes-few))
      (le-leb _ _ f.records-few)) (le-leb _ _ f.candidates-few)

  ranges-shape : good_ranges s.sizes s.chains.used (s.txns i) ≡ true
  unfolding good_ranges
  ranges-shape = let f = (g.ranges i).0 in
      and_both _ _
      (and_both _ _
      (and_both _ _
      (and_both _ _
      (each_all (λ (w : Write). ltb w.row s.sizes.rows) (s.txns i).writes (λ w m. lt-ltb _ _ (f.writes-in w m)))
      (each_all (λ (r : ReadRecord). ltb r.row s.sizes.rows && within r.ptr s.chains.used) (s.txns i).records (λ r m. let w =
      f.records-in r m in and_both _ _ (lt-ltb _ _ w.0) (and_both _ _ (le-leb _ _ w.1) (le-leb _ _ w.2)))))
      (each_all (λ r. ltb r s.sizes.rows) (s.txns i).candidates (λ r m. lt-ltb _ _ (f.candidates-in r m))))
      (each_all (λ (r : IndexRead). ltb r.bucket s.sizes.buckets) (s.txns i).reads (λ r m. lt-ltb _ _ (f.reads-in r m))))
      (lt-ltb _ _ (g.ranges i).1)

  heads-shape : good_heads s.sizes s.chains (s.txns i) ≡ true
  unfolding good_heads headed_by
  heads-shape = go (ltb (rank (s.txns i).phase) phase_installed) refl
    where
      headed : (r : ℕ) → Made s.sizes s.chains (s.txns i) r → headed_by s.chains (s.txns i).number r ≡ true
      headed r m = let p = made-head s.sizes s.chains (s.txns i) r m in and_both _ _ (le-leb _ _ p.0) (eq-eqb _ _ p.1)

      go : (b : Bool) → ltb (rank (s.txns i).phase) phase_installed ≡ b
          → b || all_of (λ r. headed_by s.chains (s.txns i).number r || not (gets_version s.chains (s.txns i).writes r))
          (pending_rows s.sizes (s.txns i).writes) ≡ true
      go true e = refl
      go false e = each_all (λ r. headed_by s.chains (s.txns i).number r || not (gets_version s.chains (s.txns i).writes r))
          (pending_rows s.sizes (s.txns i).writes)
          (λ r w. ⊎_elim (λ m. or_left (headed_by s.chains (s.txns i).number r) (not (gets_version s.chains (s.txns i).writes r)) (headed r m))
          (λ q. or_right (headed_by s.chains (s.txns i).number r) (not (gets_version s.chains (s.txns i).writes r))
          (rw (no-gets s.sizes s.chains (s.txns i) r q))) (g.written.made-or-nothing i r l (ltb-false _ _ e) w))

  txn-shape : good_txn s (s.txns i) ≡ true
  unfolding good_txn
  txn-shape = and_both _ _
      (and_both _ _ (and_both _ _ (and_both _ _ (lt-ltb _ _ (g.numbers.below i)) (eq-eqb _ _ (g.numbers.snapped i l).xmin-is)) counts-shape)
      ranges-shape) heads-shape

-- what is asked of live transactions alone
if-live : (x : Txn) (b : Bool) → (Live x → b ≡ true) → not (live x) || b ≡ true
if-live x b h = go (live x) refl
  where
    go : (t : Bool) → live x ≡ t → not t || b ≡ true
    go true e = h (test_live x e)
    go false e = refl

distinct-shape : (s : Store) → Good s → distinct_numbers s.txns ≡ true
unfolding distinct_numbers
distinct-shape s g = every-each most_live _
    (λ i u. every-each i _ (λ j v. if-live (s.txns i) _
    (λ l. rw (ne_eqb (s.txns i).number (s.txns j).number (λ e. omega (arith, g.numbers.distinct i j l e))))))

pub right-shape : (s : Store) → Good s → right_shape s ≡ true
unfolding right_shape
right-shape s g =
    and_both _ _
    (and_both _ _
    (and_both _ _
    (and_both _ _
    (and_both _ _
    (and_both _ _ g.sizes (le-leb _ _ g.numbers.clock-pos))
    (chains-shape s g))
    (every-each most_live _ (λ i u. if-live (s.txns i) _ (λ l. txn-shape s g i l))))
    (distinct-shape s g))
    (le-leb _ _ g.room.numbers-left))
    (le-leb _ _ g.room.versions-left)

-- there the shape test may be left out
pub step-in : (s : Store) → Good s → (a : Step) → step s a ≡ step_in s a
unfolding step
step-in s g a = rw (right-shape s g)

-- sizes stay
pub sizes_run : (s : Store) (more : List Step) → (run s more).sizes ≡ s.sizes
sizes_run s more = run-inv (λ w. w.sizes ≡ s.sizes) (λ w w' i e m. sizes-move w w' m ∙ e) s more refl

pub opened-good : (z : Sizes) (clock : ℕ) (before : List Step) → can_open z clock ≡ true → clock ≤ last_number → Good (run (fresh z clock) before)
unfolding can_open
opened-good z clock before e l =
    good-run (fresh z clock) (good-fresh z clock (and_l (good_sizes z) (leb 1 clock) e) (leb-true 1 clock (and_r (good_sizes z) (leb 1 clock) e)) l) before
