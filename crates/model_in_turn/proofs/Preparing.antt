-- Alone in a quiet store, a transaction begins, and it prepares where its versions fit. Assumes nothing.
use mathlib.Core.Path.{◌≡◌, refl, sym, ap, ◌∙◌}
use mathlib.Core.Bool.{false}
use mathlib.Core.Logic.{inr}
use mathlib.Core.List.{[], map}
use Prim.Native.Nat.{ℕ, zero, suc, ◌+◌, ◌≤◌}
use native.Mathlib.Omega.{arith}
use lib.ListN.{length}
use borrow.Author.Tests.{eq-eqb}
use Rattle.base_limits.specs.Limits.{most_live, last_number}
use Rattle.base_lists.specs.Lists.{Among}
use Rattle.base_lists.proofs.TableLaws.{update_same, update_other}
use Rattle.base_lists.proofs.ListLaws.{pick-none}
use Rattle.model.specs.Store.{Index, Open, Prepared, IndexRead, ReadRecord, Txn, Store, rank, phase_open}
use Rattle.model.specs.Seeing.{live, active, active_numbers}
use Rattle.model.specs.Verdict.{Clear, verdict_number, verdict}
use Rattle.model.specs.Steps.{new_txn, begun, version_rows, prepared}
use Rattle.model.specs.Refusals.{begin, prepare, place_of, txn_of, live_count, reserved_by, reserved, versions_after}
use Rattle.model.specs.Machine.{at, accepted, step}
use Rattle.model.specs.Causes.{by-none}
use Rattle.model.specs.Given.{number}
use Rattle.model.proofs.Room.{reserved-none, reserves-none}
use Rattle.model.proofs.Good.{good-move, right-shape}
use Rattle.model.proofs.Refused.{begin-0, prepare-0}
use Rattle.model.proofs.Outcomes.{done-does}
use Rattle.model.proofs.Verdicts.{verdict-cause}
use Rattle.model_in_turn.specs.Done.{returned}
use Rattle.model_in_turn.proofs.ByItself.{Local, started, phased}
use Rattle.model_in_turn.proofs.Alone.{Quiet, Alone, lives, place, txn-is, unheld, unclaimed}
use Rattle.model_in_turn.proofs.Acting.{Acts, alone-set, phase-of}
use Rattle.model.proofs.Moving.{step_move}

module _ (s : Store) (q : Quiet s) (x : Local) (t : Store) (a : Alone s x t) where
  -- nobody is Prepared, so nothing is reserved
  nothing-reserved : rank x.phase ≡ phase_open → reserved t.sizes t.chains t.txns most_live ≡ 0
  nothing-reserved p = reserved-none t.sizes t.chains t.txns most_live go
    where
      opened : (i : ℕ) → rank (t.txns i).phase ≡ phase_open
      opened zero = ap rank a.phase-is ∙ p
      opened (suc i) = a.good.numbers.idle (suc i) (a.others (suc i) (λ e. omega arith))

      go : (i : ℕ) → reserved_by t.sizes t.chains (t.txns i) ≡ 0
      go i = reserves-none t.sizes t.chains (t.txns i) (λ e. omega (arith, e, opened i))

  clear : verdict t.chains t.index (t.txns 0) ≡ Clear
  clear = (verdict-cause t.chains t.index (t.txns 0) Clear).1
      (by-none a.unmarked
      (λ r m. let e : t.index.stamp r.bucket ≡ s.index.stamp r.bucket = ap (λ (i : Index). i.stamp r.bucket) a.index_is in
      (e ∙ sym (a.stamps-are r m), omega (arith, e, a.mine, q.good.below.stamp-below r.bucket)))
      (λ r m. (true-record r m, inr (omega (arith, a.good.below.xmax-below r.ptr, a.clock-is, a.xmax-is), λ n. rw a.active-is at n))))
    where
      true-record : (r : ReadRecord) → Among r (t.txns 0).records → t.chains.xmin r.ptr ≡ r.xmin
      true-record r m = let e =
          (a.good.reading 0 (omega (arith, a.mine, q.good.numbers.clock-pos))).records-are (omega (arith, ap rank a.phase-is, a.early)) r m in
          ap t.chains.xmin (ap (λ (w : ReadRecord). w.ptr) e) ∙ sym (ap (λ (w : ReadRecord). w.xmin) e)

  pub prepare-acts : x.phase ≡ Open → s.chains.used + length (version_rows s.sizes s.chains x.writes) ≤ s.sizes.versions
      → Acts s (phased x Prepared) t (prepare s.clock) []
  unfolding accepted
  prepare-acts p room = record { done = ok; reads-are = ap (λ v. returned t s.clock v.answer) does; next = rw store_is after }
    where
      versions : versions_after t (txn_of t s.clock) ≤ t.sizes.versions
      versions = rw (txn-is s q x t a, nothing-reserved (ap rank p), a.writes_are, a.sizes-are, a.chains-are) (omega (arith, room))

      ok : number t (prepare s.clock) ≡ 0
      ok = (prepare-0 t s.clock).1 (
        (right-shape t a.good, lives s q x t a, phase-of s q x t a ∙ ap rank p),
        (
          ((λ b m. unheld s q x t a b), (λ r m. unclaimed s q x t a r)),
          (ap (λ (w : Txn). verdict_number (verdict t.chains t.index w)) (txn-is s q x t a) ∙ ap verdict_number clear, versions),
        ),
      )

      does : step t (prepare s.clock) ≡ accepted t (prepare s.clock)
      does = done-does t (prepare s.clock) ok

      store_is : (step t (prepare s.clock)).store ≡ prepared t 0
      store_is = ap (λ v. v.store) does ∙ ap (prepared t) (place s q x t a)

      after : Alone s (phased x Prepared) (prepared t 0)
      after = alone-set s q x t a (prepared t 0) _ _ (rw store_is at (good-move t _ a.good (step_move t (prepare s.clock)))) refl refl refl refl
          refl refl refl refl refl (omega arith) a.buckets-are a.stamps-are a.writes_are a.records-are

-- begin in a quiet store
module _ (s : Store) (q : Quiet s) (room : s.clock + 2 ≤ last_number) where
  none-live : (i : ℕ) → live (s.txns i) ≡ false
  none-live i = rw (eq-eqb (s.txns i).number 0 (q.idle i)) refl

  count-zero : live_count s.txns ≡ 0
  unfolding live_count
  count-zero = rw (pick-none (λ i. live (s.txns i)) 0 most_live none-live) refl

  none-active : active_numbers s.txns ≡ []
  unfolding active_numbers
  none-active = rw (pick-none (λ i. active (s.txns i)) 0 most_live (λ i. rw (none-live i) refl)) refl

  first-place : at s 0 ≡ 0
  unfolding place_of Rattle.base_lists.specs.Lists.first
  first-place = rw (eq-eqb (s.txns 0).number 0 (q.idle 0)) refl

  pub begin-done : number s begin ≡ 0
  begin-done = (begin-0 s).1 (right-shape s q.good, (omega (arith, count-zero), omega (arith, count-zero)))

  pub begin-alone : Alone s started (step s begin).store
  unfolding accepted
  begin-alone = rw store_is (record {
    good = rw store_is at (good-move s _ q.good (step_move s begin));
    early = omega arith;
    sizes-are = refl;
    clock-is = refl;
    chains-are = refl;
    index_is = refl;
    mine = ap (λ (v : Txn). v.number) here;
    others = λ i d. ap (λ (v : Txn). v.number) (update_other s.txns 0 (new_txn s) i d) ∙ q.idle i;
    phase-is = ap (λ (v : Txn). v.phase) here;
    unmarked = ap (λ (v : Txn). v.marked) here;
    xmax-is = ap (λ (v : Txn). v.snapshot.xmax) here;
    active-is = ap (λ (v : Txn). v.snapshot.active) here ∙ none-active;
    buckets-are = ap (λ (v : Txn). map (λ (r : IndexRead). r.bucket) v.reads) here;
    stamps-are = λ r m. absurd (rw here at m);
    writes_are = ap (λ (v : Txn). v.writes) here;
    records-are = ap (λ (v : Txn). map (λ (r : ReadRecord). r.row) v.records) here;
  })
    where
      store_is : (step s begin).store ≡ begun s 0
      store_is = ap (λ v. v.store) (done-does s begin begin-done) ∙ ap (begun s) first-place

      here : (begun s 0).txns 0 ≡ new_txn s
      here = update_same s.txns 0 (new_txn s)
