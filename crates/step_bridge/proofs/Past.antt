-- No step writes past what the sizes name: of every lent table the words there are as they were.
-- Assumes nothing.
use Prim.Native.Nat.{ℕ, ◌≤◌, ◌<◌}
use mathlib.Core.Path.{◌≡◌, refl, ◌∙◌}
use mathlib.Core.Bool.{Bool, true, false, not, ◌&&◌, ◌||◌}
use native.Mathlib.Omega.{arith}
use lib.Dec.{eqb, leb}
use borrow.Author.Tests.{eqb-true, eqb-false, not-false}
use Rattle.base_limits.specs.Limits.{most_live}
use Rattle.base_lists.proofs.ListLaws.{or_l, or_r}
use Rattle.model.specs.Store.{rank, phase_open, phase_prepared, phase_installed, phase_ended}
use Rattle.model.specs.Steps.{version_rows}
use Rattle.model.specs.Shape.{right_shape}
use Rattle.model.proofs.Made.{gets-writes}
use Rattle.model.proofs.Room.{reserves}
use Rattle.model.proofs.Ranges.{good-sized}
use Rattle.base_protocol.specs.declared.Sizes.{Sizes}
use Rattle.base_protocol.specs.declared.Step.{Step}
use Rattle.base_protocol.specs.declared.Step.TheVariants as ask
use Rattle.table.specs.Fields.{row_words, bucket_words}
use Rattle.txn.specs.View.{phase_view}
use Rattle.txn.specs.Methods.{idle_of}
use Rattle.txn.specs.declared.Transaction.{Transaction}
use Rattle.txn_places.specs.Places.{wanted_of, is_begin, misses_of}
use Rattle.txn_places.proofs.Laws.{default-any}
use Rattle.txn_needs.specs.Needs.{front, written_by}
use Rattle.txn_needs.specs.Taken.{any_taken, any_claimed}
use Rattle.write_verdict.specs.Judged.{verdict_of}
use Rattle.write_prepare.specs.Prepare as prepare
use Rattle.write_prepare.specs.Prepare.{is_clear, lacks, prepare_with, prepare_of}
use Rattle.finish_install.specs.Install as install
use Rattle.finish_install.specs.Install.{to_install, install_of}
use Rattle.finish_publish.specs.Publish as publish
use Rattle.finish_publish.specs.Publish.{publish_of, abort_of}
use Rattle.step.specs.Steps.{Tables, in_prepared, in_installed, published_from, publish_step, in_published, in_aborted, done_by, step_of}
use Rattle.step.specs.Words.{Words, view, txn_at, place_for, others_in, extent_in, beside, moved_by, tables_after, Sized}
use Rattle.step.specs.Past.{PastKept}
use Rattle.step_bridge.proofs.Shaped.{Shaped, shaped}
use Rattle.step_bridge.proofs.Places.{place_in, sized-at}
use Rattle.step_bridge.proofs.Tabled.{InRange}
use Rattle.step_bridge.proofs.Needing.{headed, rows-most, writes-in, row_in, pending-row}
use Rattle.step_bridge.proofs.Aborting.{freed_list, freed-buckets, listed-in, freed-in}
use Rattle.step_bridge.proofs.Preparing.{needed_for, needed-front}
use Rattle.step_bridge.proofs.Distinct.{versions-front}
use Rattle.step_bridge.proofs.Pushing.{chains_in, reserved-has}
use Rattle.step_bridge.proofs.Changing.{changes-in}
use Rattle.step_bridge.proofs.Publishing.{stamped, stamped-is}
use Rattle.step_bridge.proofs.Beyond.{sets-all-beyond, clears-beyond, posted-all-beyond}
use Rattle.step_bridge.proofs.Beyond.{all-pushed}
use Rattle.step_bridge.proofs.Slotted.{past-test, Keeps, still, captured, written, looked, collected}

module _ (w : Words) where
  abbrev KeepsPrepared : prepare.Left → Type 0
  KeepsPrepared l = Keeps w (in_prepared l w.clock w.used w.tables)

  abbrev KeepsInstalled : install.Left → Type 0
  KeepsInstalled l = Keeps w (in_installed l w.clock w.tables)

  abbrev KeepsPublished : publish.Left → Type 0
  KeepsPublished l = Keeps w (in_published (published_from l w.clock w.used) w.tables)

  abbrev KeepsAborted : publish.Left → Type 0
  KeepsAborted l = Keeps w (in_aborted l w.clock w.used w.tables)

-- prepare, install, publish and abort of a live one at a place
module _ (w : Words) (z : Sized w) (g : Shaped w) (p : ℕ) (l : p < most_live) (a : 1 ≤ (txn_at w p).number) where
  abbrev t : Transaction
  t = txn_at w p

  rows-in : InRange w.sizes.rows (written_by w.tables.lists t)
  rows-in r m = row_in w z g p a r m

  prepared : KeepsPrepared w
      (prepare_of w.tables.rows w.tables.versions w.tables.buckets w.tables.lists (extent_in w) (others_in w.txns).prepared t)
  unfolding prepare_of prepare_with
  prepared =
      let P = KeepsPrepared w in
      past-test P (not (eqb (rank (phase_view t.phase)) phase_open)) (still w) (λ e.
      past-test P (any_taken w.tables.buckets (front (needed_for w p)) t.number) (still w) (λ e.
      past-test P (any_claimed w.tables.rows w.tables.lists t) (still w) (λ e.
      past-test P (not (is_clear (verdict_of w.tables.versions w.tables.buckets w.tables.lists t))) (still w) (λ e.
      past-test P (lacks w.tables.rows w.tables.versions w.tables.lists (extent_in w) (others_in w.txns).prepared t) (still w) (λ e.
      record {
        rows = sets-all-beyond row_words 1 _ (omega arith) t.number w.tables.rows (written_by w.tables.lists t) rows-in;
        versions = refl;
        buckets = rw (needed-front w z g p) (sets-all-beyond bucket_words 1 _ (omega arith) t.number w.tables.buckets _ (listed-in w z g p a));
        lists = refl;
      })))))

  -- the new versions are within what was reserved
  installed : KeepsInstalled w (install_of (chains_in w) w.tables.lists t)
  unfolding install_of to_install
  installed =
      past-test (KeepsInstalled w) (not (eqb (rank (phase_view t.phase)) phase_prepared)) (still w) (λ e.
      let r : rank (phase_view t.phase) ≡ phase_prepared =
      eqb-true (rank (phase_view t.phase)) phase_prepared (not-false (eqb (rank (phase_view t.phase)) phase_prepared) e) in
      let on = all-pushed (view w).sizes (good-sized (view w).sizes g.sizes).versions-most w.tables.lists t (sized-at w z p).writes
      (version_rows (view w).sizes (view w).chains ((view w).txns p).writes) (chains_in w)
      (λ i m. rows-in i (pending-row w z g p i (gets-writes (view w).sizes (view w).chains ((view w).txns p) i m)))
      (omega (
        arith,
        g.versions-left,
        reserved-has (view w).sizes (view w).chains (view w).txns most_live p l,
        reserves (view w).sizes (view w).chains ((view w).txns p) a r,
      ))
      (record { rows = z.rows; versions = z.versions; heads = g.heads-in }) in
      rw (versions-front (view w).sizes w.tables.rows w.tables.versions w.used (headed w z g) (rows-most w z g) w.tables.lists t
      (writes-in w z g p a))
      (record { rows = on.0; versions = on.1; buckets = refl; lists = refl }))

  published : KeepsPublished w
      (publish_of w.tables.rows w.tables.versions w.tables.buckets w.tables.lists (extent_in w) t)
  unfolding publish_of
  published =
      let rs = written_by w.tables.lists t in
      past-test (KeepsPublished w) (not (eqb (rank (phase_view t.phase)) phase_ended)) (still w) (λ e.
      rw (stamped-is w z p, freed-buckets w p z (stamped w p))
      (record {
        rows = clears-beyond row_words 1 _ (omega arith) t.number _ rs rows-in
            ∙ posted-all-beyond w.sizes.rows w.tables.lists t rs w.tables.rows rows-in;
        versions = refl;
        buckets = clears-beyond bucket_words 1 _ (omega arith) t.number (stamped w p) (freed_list w p) (freed-in w z g p a)
            ∙ sets-all-beyond bucket_words 0 _ (omega arith) w.clock w.tables.buckets _ (changes-in w p g);
        lists = refl;
      }))

  aborted : KeepsAborted w (abort_of w.tables.rows w.tables.versions w.tables.buckets w.tables.lists w.sizes.buckets t)
  unfolding abort_of
  aborted = past-test (KeepsAborted w) (leb phase_installed (rank (phase_view t.phase))) (still w) (λ e. record {
    rows = clears-beyond row_words 1 _ (omega arith) t.number w.tables.rows (written_by w.tables.lists t) rows-in;
    versions = refl;
    buckets = rw (freed-buckets w p z w.tables.buckets)
        (clears-beyond bucket_words 1 _ (omega arith) t.number w.tables.buckets (freed_list w p) (freed-in w z g p a));
    lists = refl;
  })

-- each kind of step, of the record at a place
module _ (w : Words) (z : Sized w) (g : Shaped w) (p : ℕ) (l : p < most_live) where
  done : (s : Step) → (is_begin s ≡ false → 1 ≤ (txn_at w p).number) → Keeps w (done_by w.tables (beside w (txn_at w p)) s)
  unfolding publish_step
  done ask.Begin a = still w
  done (ask.Capture n k) a = captured w z g p l k
  done (ask.Collect n) a = collected w z g p l (a refl)
  done (ask.Rows n room) a = looked w z g p l room
  done (ask.Put n r k payload) a = written w z g p l (record { row = r; keyed = 1; key = k; payload = payload })
  done (ask.Erase n r) a = written w z g p l (record { row = r; keyed = 0; key = 0; payload = 0 })
  done (ask.Prepare n) a = prepared w z g p l (a refl)
  done (ask.Install n) a = installed w z g p l (a refl)
  done (ask.End n) a = still w
  done (ask.Publish n) a = published w z g p l (a refl)
  done (ask.Validate n) a = still w
  done (ask.Abort n) a = aborted w z g p l (a refl)

-- who is named by a number that is not 0 is live
named_live : (b : Bool) (n wanted : ℕ) → not b && (eqb wanted 0 || not (eqb n wanted)) ≡ false → b ≡ false → 1 ≤ n
named_live b n wanted e f =
    let both : eqb wanted 0 || not (eqb n wanted) ≡ false = rw f at e in
    omega (arith, eqb-false wanted 0 (or_l (eqb wanted 0) _ both), eqb-true n wanted (not-false (eqb n wanted) (or_r (eqb wanted 0) _ both)))

-- every step, of words of right shape
pub past-kept : (w : Words) → Sized w → right_shape (view w) ≡ true → (s : Step) → PastKept w.sizes w.tables (tables_after (moved_by w s))
unfolding moved_by step_of misses_of
past-kept w z e s =
    let p = place_for w.txns s in
    let l = place_in w z s in
    rw (default-any w.txns p (idle_of 0) (idle_of p) (omega (arith, z.eight)))
    (past-test (Keeps w) (not (is_begin s) && (eqb (wanted_of s) 0 || not (eqb (txn_at w p).number (wanted_of s)))) (still w)
    (λ e'. done w z (shaped w z e) p l s (named_live (is_begin s) (txn_at w p).number (wanted_of s) e')))

-- one after another
pub past-then : (z : Sizes) (a b c : Tables) → PastKept z a b → PastKept z b c → PastKept z a c
past-then z a b c h k = record {
  rows = k.rows ∙ h.rows;
  versions = k.versions ∙ h.versions;
  buckets = k.buckets ∙ h.buckets;
  lists = k.lists ∙ h.lists;
}
