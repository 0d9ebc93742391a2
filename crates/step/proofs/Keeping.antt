-- Steps that keep their transaction: number, snapshot and slot of the record that goes back are those of the record that came in.
-- Assumes nothing.
use Prim.Native.Nat.{ℕ, ◌+◌}
use mathlib.Core.Path.{◌≡◌, refl, sym}
use mathlib.Core.Bool.{Bool, true, false, cond, not}
use mathlib.Core.List.{List}
use lib.Dec.{eqb, ltb}
use lib.ListN.{length, replicate}
use Rattle.base_limits.specs.Limits.{most_records}
use Rattle.model.specs.Store.{rank, phase_open, phase_collected, phase_prepared, phase_installed}
use Rattle.base_protocol.specs.declared.Extent.{Extent}
use Rattle.base_protocol.specs.declared.Step.{Step}
use Rattle.base_protocol.specs.declared.Step.TheVariants as ask
use Rattle.txn.specs.View.{phase_view}
use Rattle.txn.specs.Methods.{parts_of}
use Rattle.txn.specs.declared.Answered.{Answered}
use Rattle.txn.specs.declared.Parts.{Parts}
use Rattle.txn.specs.declared.Transaction.{Transaction}
use Rattle.txn.proofs.Apart.{Stays, whole-rest, here, either, capture-stays, collect-stays, write-stays}
use Rattle.finish_install.specs.Install as install
use Rattle.finish_publish.specs.Publish.{end_of}
use Rattle.txn_needs.specs.Needs.{front}
use Rattle.txn_needs.specs.Taken.{any_taken, any_claimed}
use Rattle.read_match.specs.Matching.{look}
use Rattle.read_record.specs.Recording.{known_pointers}
use Rattle.read.specs.Rows as reads
use Rattle.write_verdict.specs.Judged.{verdict_of}
use Rattle.write_prepare.specs.Prepare as prepare
use Rattle.txn_places.specs.Places.{misses_of}
use Rattle.step.specs.declared.Place.{Place}
use Rattle.step.specs.declared.Stepped.{Stepped}
use Rattle.step.specs.Steps.{Tables, Moved, Keeping, done_by, missed, step_of, with_kept, keeps_of, kept_in}
use Rattle.step.proofs.Laws.{unkept}

module _ (t : Transaction) where
  pub rows-stays : (rows versions lists found : List ℕ) (e : Extent) (room : ℕ) → Stays t (reads.rows_of rows versions lists found e t room).reply.txn
  unfolding reads.rows_of reads.reading_of
  rows-stays rows versions lists found e room =
      let f : reads.LeftRows → Transaction = λ l. l.reply.txn in
      let l = look rows versions lists (reads.reading_by e t room) in
      let rs = reads.matched_rows l e.sizes.rows in
      let new = reads.new_records l (known_pointers lists t.slot t.records_n) rs in
      either t f (not (eqb (rank (phase_view t.phase)) phase_collected)) _ _ (here t)
      (either t f (ltb (reads.room_for room (length found)) (length rs)) _ _ (here t)
      (either t f (ltb most_records (t.records_n + length new)) _ _ (here t) (record { number = refl; snapshot = refl; slot = refl })))

  pub prepare-stays : (rows versions buckets lists : List ℕ) (e : Extent) (prepared : List ℕ)
      → Stays t (prepare.prepare_of rows versions buckets lists e prepared t).reply.txn
  unfolding prepare.prepare_of prepare.prepare_with
  prepare-stays rows versions buckets lists e prepared =
      let f : prepare.Left → Transaction = λ l. l.reply.txn in
      let needed = prepare.needed_into rows versions lists e.sizes.buckets t (replicate prepare.most_needed 0) in
      either t f (not (eqb (rank (phase_view t.phase)) phase_open)) _ _ (here t)
      (either t f (any_taken buckets (front needed) t.number) _ _ (here t)
      (either t f (any_claimed rows lists t) _ _ (here t)
      (either t f (not (prepare.is_clear (verdict_of versions buckets lists t))) _ _ (here t)
      (either t f (prepare.lacks rows versions lists e prepared t) _ _ (here t) (record { number = refl; snapshot = refl; slot = refl })))))

  pub install-stays : (c : install.Chains) (lists : List ℕ) → Stays t (install.install_of c lists t).reply.txn
  unfolding install.install_of
  install-stays c lists =
      either t (λ (l : install.Left). l.reply.txn) (not (eqb (rank (phase_view t.phase)) phase_prepared)) _ _ (here t)
      (record { number = refl; snapshot = refl; slot = refl })

  pub end_stays : Stays t (end_of t).txn
  unfolding end_of
  end_stays =
      either t (λ (a : Answered). a.txn) (not (eqb (rank (phase_view t.phase)) phase_installed)) _ _ (here t)
      (record { number = refl; snapshot = refl; slot = refl })

  pub validate-stays : (versions buckets lists : List ℕ) → Stays t (prepare.validate_of versions buckets lists t).txn
  unfolding prepare.validate_of
  validate-stays versions buckets lists =
      let f : Answered → Transaction = λ a. a.txn in
      either t f (not (eqb (rank (phase_view t.phase)) phase_open)) _ _ (here t) (either t f (prepare.reads_taken_in buckets lists t) _ _ (here t) (here t))

-- what it kept, beside what it leaves, is the whole of what the step leaves
module _ (b : Tables) (p : Place) where
  abbrev Keeps : Moved → Type 0
  Keeps m = with_kept (kept_in m).kept (parts_of p.txn) p.extent.clock ≡ m.stepped

  by-rest : (m : Moved) → Stays p.txn m.stepped.txn → m.stepped.clock ≡ p.extent.clock → Keeps m
  by-rest m s e = rw (whole-rest p.txn m.stepped.txn s, e)

  done-kept : (s : Step) → keeps_of s ≡ true → Keeps (done_by b p s)
  done-kept ask.Begin q = absurd (unkept (sym q))
  done-kept (ask.Capture n k) q = by-rest (done_by b p (ask.Capture n k)) (capture-stays p.txn b.buckets b.lists p.extent.sizes.buckets k) refl
  done-kept (ask.Collect n) q = by-rest (done_by b p (ask.Collect n)) (collect-stays p.txn b.rows b.buckets b.lists p.extent.sizes.rows) refl
  done-kept (ask.Rows n room) q =
      by-rest (done_by b p (ask.Rows n room)) (rows-stays p.txn b.rows b.versions b.lists b.found p.extent room) refl
  done-kept (ask.Put n r k payload) q = by-rest (done_by b p (ask.Put n r k payload)) (write-stays p.txn b.lists p.extent.sizes.rows _) refl
  done-kept (ask.Erase n r) q = by-rest (done_by b p (ask.Erase n r)) (write-stays p.txn b.lists p.extent.sizes.rows _) refl
  done-kept (ask.Prepare n) q =
      by-rest (done_by b p (ask.Prepare n))
      (prepare-stays p.txn b.rows b.versions b.buckets b.lists p.extent p.others.prepared) refl
  done-kept (ask.Install n) q = by-rest (done_by b p (ask.Install n)) (install-stays p.txn _ b.lists) refl
  done-kept (ask.End n) q = by-rest (done_by b p (ask.End n)) (end_stays p.txn) refl
  done-kept (ask.Publish n) q = absurd (unkept (sym q))
  done-kept (ask.Validate n) q = by-rest (done_by b p (ask.Validate n)) (validate-stays p.txn b.versions b.buckets b.lists) refl
  done-kept (ask.Abort n) q = absurd (unkept (sym q))

  pub kept-stepped : (s : Step) → keeps_of s ≡ true → Keeps (step_of b p s)
  unfolding step_of
  kept-stepped s q = by (misses_of p.txn.number s)
    where
      by : (miss : Bool) → Keeps (cond miss (missed b p) (done_by b p s))
      by true = by-rest (missed b p) (here p.txn) refl
      by false = done-kept s q

-- what such a step leaves, put together again
pub together : (m : Moved) (t : Transaction) {l : Keeping} {r : Stepped} {q : Parts} {clock : ℕ} → l ≡ kept_in m → r ≡ with_kept l.kept q clock
    → q ≡ parts_of t → with_kept (kept_in m).kept (parts_of t) clock ≡ m.stepped
    → ◌≡◌ {A = Moved} (record { stepped = r; rows = l.rows; versions = l.versions; buckets = l.buckets; lists = l.lists; found = l.found }) m
together m t el er eq e = rw (er, eq, el, e)
