-- From a finished read over any steps to a clear verdict: at validate, and at an accepted prepare. Assumes nothing.
use mathlib.Core.Path.{◌≡◌, refl, sym, ap, ◌∙◌}
use mathlib.Core.Bool.{false}
use mathlib.Core.Option.{some}
use mathlib.Core.List.{List, [], ◌∷◌, map}
use Prim.Native.Nat.{ℕ, ◌<◌}
use native.Mathlib.Omega.{arith}
use borrow.Author.Tests.{eqb-true, not-false}
use Rattle.base_limits.specs.Limits.{most_live}
use Rattle.base_lists.specs.Lists.{Among}
use Rattle.base_lists.proofs.TableLaws.{update-elim, update-field}
use Rattle.base_lists.proofs.ListLaws.{or_l, among-left, none_each, which-pick, pick_same, map-pick}
use Rattle.model.specs.Store.{Sizes, Chains, Snapshot, Collected, Prepared, ReadRecord, Txn, Store, rank, phase_open, phase_installed, key_in}
use Rattle.model.specs.Seeing.{version_of, key_at, pending, matches, record_of, shows, Live, active, active_numbers, snapshot_now}
use Rattle.model.specs.Verdict.{Clear, verdict}
use Rattle.model.specs.Steps.{with_phase, read_txn, read_done, read_buckets, needed_buckets, prepared}
use Rattle.model.specs.Refusals.{Step, rows, prepare, validate, txn_of, by_another}
use Rattle.model.specs.Machine.{Done, Rows, Judged, at, checks, accepted, step, run}
use Rattle.model.proofs.Phases.{collected-is}
use Rattle.model.proofs.Move.{passes, finds}
use Rattle.model.proofs.SeeingLaws.{key-same, version-match}
use Rattle.model.proofs.Good.{Good, good-run, sizes_run}
use Rattle.model.proofs.Ruled.{refuses}
use Rattle.model.proofs.Unrefused.{is-accepted}
use Rattle.model.proofs.Finished.{found-whole, RowsDone, rows-done, rows-good, rows-recorded}
use Rattle.model.proofs.Remains.{Remains, RemainsAt, remains-run}
use Rattle.model.proofs.Cleared.{clear-number, cleared}
use Rattle.model.proofs.Stands.{stands}

-- no write is pending
none-pending : (x : Txn) → x.writes ≡ [] → (r : ℕ) → pending x.writes r ≡ false
unfolding pending
none-pending x e r = rw e

module _ (s : Store) (t room : ℕ) (rs : List ℕ) (g : Good s) (d : RowsDone s t room rs) (none_written : (txn_of s t).writes ≡ []) where
  -- what was read is what the snapshot shows
  pub read-shows : map (λ (q : ReadRecord). q.row) (shows s.chains s.sizes.rows (txn_of s t).snapshot (key_in (txn_of s t).phase)) ≡ rs
  unfolding shows
  read-shows = same _ ∙ (pick_same _ (matches s.chains (txn_of s t) (key_in (txn_of s t).phase)) 0 s.sizes.rows
      (λ r lo hi. sym (version-match s.chains (txn_of s t) _ r (none-pending (txn_of s t) none_written r)))
      ∙ sym (d.answer-is ∙ found-whole s g (at s t) d.alive d.collected))
    where
      same : (ps : List ℕ) → map (λ (q : ReadRecord). q.row) (map (record_of s.chains (txn_of s t).snapshot) ps) ≡ ps
      same [] = refl
      same (p ∷ ps) = ap (λ qs. p ∷ qs) (same ps)

  pub read-remains : RemainsAt s.chains (txn_of s t).snapshot (key_in (txn_of s t).phase) t (read_done s (at s t))
  read-remains = record {
    number-pos = omega (arith, d.alive, d.number_is);
    number-old = omega (arith, g.numbers.below (at s t), d.number_is);
    here = λ j. update-elim (λ y. y.number ≡ t → rank y.phase < phase_installed → Remains s.chains (txn_of s t).snapshot (key_in (txn_of s t).phase)
        s.sizes s.chains y) s.txns (at s t) (read_txn s (txn_of s t)) j
        (λ e p q. mine)
        (λ f p q. absurd (f (sym (g.numbers.distinct (at s t) j d.alive (d.number_is ∙ sym p)))));
  }
    where
      mine : Remains s.chains (txn_of s t).snapshot (key_in (txn_of s t).phase) s.sizes s.chains (read_txn s (txn_of s t))
      mine = record {
        snapshot-is = refl;
        bucket-read = ((g.reading (at s t) d.alive).collects (key_in (txn_of s t).phase) (collected-is (txn_of s t).phase d.collected)).0;
        records-keep = λ r u e. rows-recorded s t room rs g d r (found r u e) (none-pending (txn_of s t) none_written r);
        same_version = λ r. refl;
        same-key = λ r. refl;
      }
        where
          found : (r : ℕ) → r < s.sizes.rows → key_at s.chains (version_of s.chains (txn_of s t).snapshot r) ≡ some (key_in (txn_of s t).phase)
              → Among r rs
          found r u e = rw (d.answer-is ∙ found-whole s g (at s t) d.alive d.collected)
              (which-pick (matches s.chains (txn_of s t) (key_in (txn_of s t).phase)) 0 s.sizes.rows r (omega arith) (omega arith)
              (version-match s.chains (txn_of s t) _ r (none-pending (txn_of s t) none_written r) ∙ key-same _ _ e))

-- a validation or a prepare that has found no conflict, and no bucket of an index read held by another
pub record Passed (s : Store) (t : ℕ) : Type 0 where
  pub alive : Live (txn_of s t)
  pub number_is : (txn_of s t).number ≡ t
  pub opened : rank (txn_of s t).phase ≡ phase_open
  pub clear : verdict s.chains s.index (txn_of s t) ≡ Clear
  pub untaken : (b : ℕ) → Among b (read_buckets (txn_of s t)) → by_another s.held.holder (txn_of s t).number b ≡ false

pub validate-passed : (s : Store) (t : ℕ) → (step s (validate t)).answer ≡ Judged Clear → Passed s t × ((step s (validate t)).store ≡ s)
unfolding checks accepted
validate-passed s t e =
    let ok = is-accepted s (validate t) (ap refuses e) in
    let f = finds s t _ _ ok.tests in
    let j : Judged (verdict s.chains s.index (txn_of s t)) ≡ Judged Clear = sym (ap (λ w. w.answer) ok.does) ∙ e in (
      record {
        alive = f.alive;
        number_is = f.number;
        opened = eqb-true _ _ f.phase-is;
        clear = cc;
        untaken = λ b m. none_each _ (read_buckets (txn_of s t)) (passes _ _ _ f.rest).0 b m;
      },
      ap (λ w. w.store) ok.does,
    )

pub prepare-passed : (s : Store) (t : ℕ) → (step s (prepare t)).answer ≡ Done → Passed s t × ((step s (prepare t)).store ≡ prepared s (at s t))
unfolding checks accepted needed_buckets
prepare-passed s t e =
    let ok = is-accepted s (prepare t) (ap refuses e) in
    let f = finds s t _ _ ok.tests in
    let a = passes _ _ _ f.rest in
    let b = passes _ _ _ a.1 in (
      record {
        alive = f.alive;
        number_is = f.number;
        opened = eqb-true _ _ f.phase-is;
        clear = clear-number _ (eqb-true _ 0 (not-false _ b.0));
        untaken = λ b m. none_each _ (needed_buckets s (txn_of s t)) (or_l _ _ a.0) b (among-left b (read_buckets (txn_of s t)) _ m);
      },
      ap (λ w. w.store) ok.does,
    )

-- what remains of a read at a store where it passed is what a snapshot shows there
pub passed-stands : (s : Store) (t k : ℕ) (c₁ : Chains) (v : Snapshot) → Good s → RemainsAt c₁ v k t s → Passed s t
    → shows s.chains s.sizes.rows (snapshot_now s) k ≡ shows c₁ s.sizes.rows v k
passed-stands s t k c₁ v g w p =
    let r = w.here (at s t) p.number_is (omega (arith, p.opened)) in
    let kept : Remains c₁ (txn_of s t).snapshot k s.sizes s.chains (txn_of s t) = rw (sym r.snapshot-is) at r in
    rw (sym r.snapshot-is)
    (stands s g (at s t) p.alive (omega (arith, p.opened)) c₁ k kept (cleared s.chains s.index (txn_of s t) p.clear) p.untaken)

-- a prepared transaction is as active as an open one
pub prepared-now : (s : Store) (i : ℕ) → rank (s.txns i).phase ≡ phase_open → snapshot_now (prepared s i) ≡ snapshot_now s
unfolding snapshot_now active_numbers
prepared-now s i a = rw same
  where
    same : active_numbers (prepared s i).txns ≡ active_numbers s.txns
    same = map-pick (λ j. ((prepared s i).txns j).number) (λ j. (s.txns j).number) (λ j. active ((prepared s i).txns j)) (λ j. active (s.txns j)) 0 most_live
        (λ r lo hi. update-field (λ y. active y) s.txns i (with_phase (s.txns i) Prepared) r (rw a))
        (λ r lo hi e. update-field (λ y. y.number) s.txns i (with_phase (s.txns i) Prepared) r refl)

pub validated-shows : (s : Store) (t k n : ℕ) → Passed s t × ((step s (validate t)).store ≡ s)
    → shows (step s (validate t)).store.chains n (snapshot_now (step s (validate t)).store) k ≡ shows s.chains n (snapshot_now s) k
validated-shows s t k n ok = ap (λ w. shows w.chains n (snapshot_now w) k) ok.1

pub prepared-shows : (s : Store) (t k n : ℕ) → Passed s t × ((step s (prepare t)).store ≡ prepared s (at s t))
    → shows (step s (prepare t)).store.chains n (snapshot_now (step s (prepare t)).store) k ≡ shows s.chains n (snapshot_now s) k
prepared-shows s t k n ok = ap (λ w. shows w.chains n (snapshot_now w) k) ok.1
    ∙ ap (λ v. shows s.chains n v k) (prepared-now s (at s t) ok.0.opened)

-- any steps between a read and a store where it passed
pub standing : (z : Sizes) (s₁ : Store) (t room k : ℕ) (rs : List ℕ) (between : List Step) → Good s₁ → s₁.sizes ≡ z
    → (step s₁ (rows t room)).answer ≡ Rows rs → (txn_of s₁ t).phase ≡ Collected k → (txn_of s₁ t).writes ≡ []
    → let s₂ = run (step s₁ (rows t room)).store between in Passed s₂ t
    → (shows s₂.chains z.rows (snapshot_now s₂) k ≡ shows s₁.chains z.rows (txn_of s₁ t).snapshot k)
    × (map (λ (q : ReadRecord). q.row) (shows s₁.chains z.rows (txn_of s₁ t).snapshot k) ≡ rs)
standing z s₁ t room k rs between g size e p w v =
    let s₂ = run (step s₁ (rows t room)).store between in
    let d = rows-done s₁ t room rs e in
    let key : key_in (txn_of s₁ t).phase ≡ k = ap key_in p in
    let after : Good (step s₁ (rows t room)).store = rw d.store_is (rows-good s₁ t room rs g d) in
    let size₂ : s₂.sizes ≡ z = sizes_run (step s₁ (rows t room)).store between ∙ (ap (λ q. q.sizes) d.store_is ∙ size) in
    let m = remains-run s₁.chains (txn_of s₁ t).snapshot (key_in (txn_of s₁ t).phase) t (step s₁ (rows t room)).store after
    (rw d.store_is (read-remains s₁ t room rs g d w)) between in
    let same = passed-stands s₂ t (key_in (txn_of s₁ t).phase) s₁.chains (txn_of s₁ t).snapshot (good-run (step s₁ (rows t room)).store after between)
    m v in (
      rw key at (counted s₂ size₂ (snapshot_now s₂) (key_in (txn_of s₁ t).phase)
          ∙ (same ∙ ap (λ n. shows s₁.chains n (txn_of s₁ t).snapshot (key_in (txn_of s₁ t).phase)) (ap (λ q. q.rows) size₂))),
      rw key at (ap (map (λ (q : ReadRecord). q.row)) (counted s₁ size (txn_of s₁ t).snapshot (key_in (txn_of s₁ t).phase)) ∙ read-shows s₁ t room rs g d w),
    )
  where
    counted : (s : Store) → s.sizes ≡ z → (v : Snapshot) (k : ℕ) → shows s.chains z.rows v k ≡ shows s.chains s.sizes.rows v k
    counted s e v k = ap (λ n. shows s.chains n v k) (sym (ap (λ q. q.rows) e))
