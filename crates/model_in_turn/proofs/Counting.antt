-- Versions that wait for an end, transactions that run and those that are over: what each step adds to these, so that the turn has room. Assumes nothing.
use mathlib.Core.Path.{◌≡◌, refl, sym, ap, ◌∙◌}
use mathlib.Core.Bool.{Bool, true, false, cond, not, ◌&&◌}
use mathlib.Core.Logic.{◌≢◌}
use mathlib.Core.Option.{Option}
use Prim.Native.Nat.{ℕ, zero, suc, ◌+◌, ◌≤◌, ◌<◌}
use native.Mathlib.Omega.{arith}
use native.Mathlib.Decide.{ℕ_discrete}
use lib.Dec.{eqb, ltb}
use lib.ListN.{length}
use borrow.Author.Tests.{eq-eqb, ne_eqb, ltb-true, lt-ltb}
use Rattle.base_limits.specs.Limits.{most_live}
use Rattle.base_lists.specs.Table.{update}
use Rattle.base_lists.proofs.TableLaws.{update-elim}
use Rattle.base_lists.proofs.ListLaws.{and-false}
use Rattle.model.specs.Store.{Sizes, Installed, Ended, Txn, Store, no_txn, rank, phase_prepared, phase_installed, phase_ended}
use Rattle.model.specs.Seeing.{live, Live}
use Rattle.model.specs.Steps.{with_phase, becomes, new_txn, begun, old_key, version_rows, installed, ended, published}
use Rattle.model.specs.Refusals.{live_count}
use Rattle.model.proofs.Move.{live_test, Move, stay, did-begin, did-mark, did-capture, did-collect, did-rows, did_write, did-prepare, did-install, did-end}
use Rattle.model.proofs.Move.{did-publish, did-abort}
use Rattle.model.proofs.Numbers.{in-place}
use Rattle.model.proofs.Holders.{posted-kept}
use Rattle.model.proofs.Made.{versions_over, versions-old, versions-same}
use Rattle.model.proofs.Written.{posted-old}
use Rattle.model.proofs.Sums.{sum, sum_same, sum-set, one, picked}
use Rattle.model.proofs.Room.{used-pushAll}
use Rattle.model.proofs.Good.{Good}

-- versions made and not shown yet; who runs; who has ended
unfoldable pub waiting : Sizes → (ℕ → Option ℕ) → Txn → ℕ
waiting z posted x = cond (live x && eqb (rank x.phase) phase_installed) (length (versions_over z posted x.writes)) 0

unfoldable pub running : Txn → ℕ
running x = one (live x && ltb (rank x.phase) phase_ended)

unfoldable pub over : Txn → ℕ
over x = one (live x && not (ltb (rank x.phase) phase_ended))

not-below : (m n : ℕ) → n ≤ m → ltb m n ≡ false
not-below m n h = go (ltb m n) refl
  where
    go : (b : Bool) → ltb m n ≡ b → b ≡ false
    go true e = absurd (omega (arith, ltb-true m n e))
    go false e = refl

-- what a transaction counts for: versions that wait, one that runs, one that is over
pub record Counts (z : Sizes) (posted : ℕ → Option ℕ) (x : Txn) (w r o : ℕ) : Type 0 where
  pub waits : waiting z posted x ≡ w
  pub runs : running x ≡ r
  pub is-over : over x ≡ o

module _ (z : Sizes) (posted : ℕ → Option ℕ) (x : Txn) where
  wait-not : rank x.phase ≢ phase_installed → waiting z posted x ≡ 0
  unfolding waiting
  wait-not d = rw (ne_eqb (rank x.phase) phase_installed d, and-false (live x)) refl

  -- a free place
  pub count-free : x.number ≡ 0 → Counts z posted x 0 0 0
  unfolding waiting running over
  count-free e = record { waits = rw (eq-eqb x.number 0 e) refl; runs = rw (eq-eqb x.number 0 e) refl; is-over = rw (eq-eqb x.number 0 e) refl }

  -- one that has not installed, one that has, and one that has ended
  module _ (l : Live x) where
    runs_on : rank x.phase < phase_ended → (running x ≡ 1) × (over x ≡ 0)
    unfolding running over
    runs_on a = (rw (live_test x l, lt-ltb (rank x.phase) phase_ended a) refl, rw (lt-ltb (rank x.phase) phase_ended a, and-false (live x)) refl)

    pub count-early : rank x.phase < phase_installed → Counts z posted x 0 1 0
    count-early a = let o = runs_on (omega arith) in record { waits = wait-not (λ e. omega arith); runs = o.0; is-over = o.1 }

    pub count-installed : rank x.phase ≡ phase_installed → Counts z posted x (length (versions_over z posted x.writes)) 1 0
    unfolding waiting
    count-installed e = let o = runs_on (omega arith) in
        record { waits = rw (live_test x l, eq-eqb (rank x.phase) phase_installed e) refl; runs = o.0; is-over = o.1 }

    pub count-ended : rank x.phase ≡ phase_ended → Counts z posted x 0 0 1
    unfolding running over
    count-ended e = record {
      waits = wait-not (λ f. omega arith);
      runs = rw
          (not-below (rank x.phase) phase_ended (omega arith), and-false (live x)) refl;
      is-over = rw (live_test x l, not-below (rank x.phase) phase_ended (omega arith)) refl;
    }

live-parts : (x : Txn) → one (live x) ≡ running x + over x
unfolding running over
live-parts x = go (live x) (ltb (rank x.phase) phase_ended)
  where
    go : (a b : Bool) → one a ≡ one (a && b) + one (a && not b)
    go true true = refl
    go true false = refl
    go false true = refl
    go false false = refl

parts : (t : ℕ → Txn) (n : ℕ) → sum (λ x. one (live x)) t n ≡ sum running t n + sum over t n
unfolding sum
parts t zero = refl
parts t (suc n) = omega (arith, parts t n, live-parts (t n))

pub live-count : (t : ℕ → Txn) → live_count t ≡ sum running t most_live + sum over t most_live
unfolding live_count
live-count t = picked live t most_live ∙ parts t most_live

-- one place changes: what the places count for together
record Change (z : Sizes) (posted : ℕ → Option ℕ) (t t' : ℕ → Txn) (w r o w' r' o' : ℕ) : Type 0 where
  pub waits : sum (waiting z posted) t' most_live + w ≡ sum (waiting z posted) t most_live + w'
  pub runs : sum running t' most_live + r ≡ sum running t most_live + r'
  pub are-over : sum over t' most_live + o ≡ sum over t most_live + o'

change : (z : Sizes) (posted : ℕ → Option ℕ) (t : ℕ → Txn) (i : ℕ) (x : Txn) {w r o w' r' o' : ℕ} → i < most_live → Counts z posted (t i) w r o
    → Counts z posted x w' r' o' → Change z posted t (update t i x) w r o w' r' o'
change z posted t i x u c c' = record {
  waits = omega (arith, sum-set (waiting z posted) t i x most_live u, c.waits, c'.waits);
  runs = omega (arith, sum-set running t i x most_live u, c.runs, c'.runs);
  are-over = omega (arith, sum-set over t i x most_live u, c.is-over, c'.is-over);
}

-- what a step that ends nobody adds
pub record Counted (s s' : Store) : Type 0 where
  pub wait-is : s.chains.used + sum (waiting s.sizes s'.index.posted) s'.txns most_live ≡ s'.chains.used
      + sum (waiting s.sizes s.index.posted) s.txns most_live
  pub count-is : s.clock + sum over s.txns most_live + sum running s'.txns most_live ≤ s'.clock + sum over s'.txns most_live
      + sum running s.txns most_live

-- one place goes on and neither installs nor ends
on-counted : (s s' : Store) (i : ℕ) (x : Txn) → Good s → s'.txns ≡ update s.txns i x → s'.chains ≡ s.chains → s'.index ≡ s.index → s'.clock ≡ s.clock
    → Live (s.txns i) → x.number ≡ (s.txns i).number → rank (s.txns i).phase < phase_installed → rank x.phase < phase_installed → Counted s s'
on-counted s s' i x g ts cs xs ck l e a b =
    let c = change s.sizes s.index.posted s.txns i x (in-place s.clock s.txns g.numbers i l)
    (count-early s.sizes s.index.posted (s.txns i) l a) (count-early s.sizes s.index.posted x (omega arith) b) in
    record { wait-is = rw (ts, cs, xs) (omega (arith, c.waits)); count-is = rw (ts, ck) (omega (arith, c.runs, c.are-over)) }

-- what one waits for is not changed by another's publish
posted-waits : (s : Store) (i : ℕ) → Good s → rank (s.txns i).phase ≡ phase_ended → (j : ℕ)
    → waiting s.sizes (published s i).index.posted ((published s i).txns j) ≡ waiting s.sizes s.index.posted ((published s i).txns j)
unfolding waiting
posted-waits s i g a j = update-elim (λ y. waiting s.sizes (published s i).index.posted y ≡ waiting s.sizes s.index.posted y) s.txns i no_txn j
    (λ e. refl)
    (λ d. go d (ℕ_discrete (rank (s.txns j).phase) phase_installed))
  where
    go : j ≢ i → Dec (rank (s.txns j).phase ≡ phase_installed)
        → waiting s.sizes (published s i).index.posted (s.txns j) ≡ waiting s.sizes s.index.posted (s.txns j)
    go d (yes e) = ap (λ rs. cond (live (s.txns j) && eqb (rank (s.txns j).phase) phase_installed) (length rs) 0)
        (versions-same s.sizes s.index.posted (published s i).index.posted (s.txns j)
        (λ r w. posted-kept s i g.numbers g.holders (omega arith) j r d (omega arith) w))
    go d (no f) = wait-not s.sizes (published s i).index.posted (s.txns j) f ∙ sym (wait-not s.sizes s.index.posted (s.txns j) f)

module _ (s : Store) (g : Good s) (i : ℕ) where
  -- a new one runs
  begin-counted : i < most_live → (s.txns i).number ≡ 0 → Counted s (begun s i)
  begin-counted u f =
      let c = change s.sizes s.index.posted s.txns i (new_txn s) u (count-free s.sizes s.index.posted (s.txns i) f)
      (count-early s.sizes s.index.posted (new_txn s) g.numbers.clock-pos (omega arith)) in
      record { wait-is = omega (arith, c.waits); count-is = omega (arith, c.runs, c.are-over) }

  module _ (l : Live (s.txns i)) where
    u : i < most_live
    u = in-place s.clock s.txns g.numbers i l

    -- the versions that it makes wait for its end
    install-counted : rank (s.txns i).phase ≡ phase_prepared → Counted s (installed s i)
    install-counted a =
        let c = change s.sizes s.index.posted s.txns i (with_phase (s.txns i) Installed) u
        (count-early s.sizes s.index.posted (s.txns i) l (omega arith))
        (count-installed s.sizes s.index.posted (with_phase (s.txns i) Installed) l refl) in
        let p = used-pushAll (s.txns i) (version_rows s.sizes s.chains (s.txns i).writes) s.chains in
        let v = ap length (versions-old s.sizes s.chains (s.txns i).writes
        ∙ versions-same s.sizes s.index.posted (old_key s.chains) (s.txns i)
        (λ r w. sym (posted-old s g.numbers g.holders g.written i r a w))) in
        record { wait-is = omega (arith, c.waits, p, v); count-is = omega (arith, c.runs, c.are-over) }

    -- who was over is gone
    publish-counted : rank (s.txns i).phase ≡ phase_ended → Counted s (published s i)
    publish-counted a =
        let c = change s.sizes s.index.posted s.txns i no_txn u (count-ended s.sizes s.index.posted (s.txns i) l a)
        (count-free s.sizes s.index.posted no_txn refl) in
        let o = sum_same (waiting s.sizes s.index.posted) (waiting s.sizes (published s i).index.posted) (published s i).txns
        (published s i).txns most_live (λ j u. posted-waits s i g a j) in
        record { wait-is = omega (arith, c.waits, o); count-is = omega (arith, c.runs, c.are-over) }

    -- who ran is gone
    abort-counted : rank (s.txns i).phase < phase_installed → Counted s (ended s i)
    abort-counted a =
        let c = change s.sizes s.index.posted s.txns i no_txn u (count-early s.sizes s.index.posted (s.txns i) l a)
        (count-free s.sizes s.index.posted no_txn refl) in
        record { wait-is = omega (arith, c.waits); count-is = omega (arith, c.runs, c.are-over) }

pub counted-move : (s s' : Store) {b : ℕ} → Good s → Move s b s'
    → ((i : ℕ) → Live (s.txns i) → rank (s.txns i).phase ≡ phase_installed → s' ≡ becomes s i Ended → ⊥) → Counted s s'
counted-move s s' = go s'
  where
    go : {b : ℕ} (s' : Store) → Good s → Move s b s'
        → ((i : ℕ) → Live (s.txns i) → rank (s.txns i).phase ≡ phase_installed → s' ≡ becomes s i Ended → ⊥) → Counted s s'
    go s' g (stay i) no_end = record { wait-is = refl; count-is = omega arith }
    go s' g (did-begin i a b c d) no_end = begin-counted s g i a b
    go s' g (did-mark i a b) no_end = on-counted s s' i _ g refl refl refl refl a refl (omega arith) (omega arith)
    go s' g (did-capture i k a b c) no_end = on-counted s s' i _ g refl refl refl refl a refl (omega arith) (omega arith)
    go s' g (did-collect i a b) no_end = on-counted s s' i _ g refl refl refl refl a refl (omega arith) (omega arith)
    go s' g (did-rows i a b c) no_end = on-counted s s' i _ g refl refl refl refl a refl (omega arith) (omega arith)
    go s' g (did_write i w a b c d) no_end = on-counted s s' i _ g refl refl refl refl a refl (omega arith) (omega arith)
    go s' g (did-prepare i a b c) no_end = on-counted s s' i _ g refl refl refl refl a refl (omega arith) (omega arith)
    go s' g (did-install i a b) no_end = install-counted s g i a b
    go s' g (did-end i a b) no_end = absurd (no_end i a b refl)
    go s' g (did-publish i a b) no_end = publish-counted s g i a b
    go s' g (did-abort i a b) no_end = abort-counted s g i a b

-- what an end adds: its versions are shown, and it runs no more
pub record Ends (s : Store) (i : ℕ) : Type 0 where
  pub wait-is : sum (waiting s.sizes s.index.posted) (becomes s i Ended).txns most_live
      + length (versions_over s.sizes s.index.posted (s.txns i).writes) ≡ sum (waiting s.sizes s.index.posted) s.txns most_live
  pub runs-are : sum running (becomes s i Ended).txns most_live + 1 ≡ sum running s.txns most_live
  pub over-are : sum over (becomes s i Ended).txns most_live ≡ sum over s.txns most_live + 1

pub ends : (s : Store) (i : ℕ) → Good s → Live (s.txns i) → rank (s.txns i).phase ≡ phase_installed → Ends s i
ends s i g l a =
    let x = with_phase (s.txns i) Ended in
    let c = change s.sizes s.index.posted s.txns i x (in-place s.clock s.txns g.numbers i l)
    (count-installed s.sizes s.index.posted (s.txns i) l a) (count-ended s.sizes s.index.posted x l refl) in
    record { wait-is = omega (arith, c.waits); runs-are = omega (arith, c.runs); over-are = omega (arith, c.are-over) }
