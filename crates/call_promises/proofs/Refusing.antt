-- Each refusal leaves state and lent list as found, except that a stale stamp marks its transaction: every lent word, also past a size and in free slots, and
-- the machine.
-- Assumes nothing.
use Prim.Native.Nat.{ℕ, ◌+◌, ◌%◌, ◌<◌}
use mathlib.Core.Path.{◌≡◌, refl, sym, ap, subst, ◌∙◌}
use mathlib.Core.Bool.{Bool, true, false, not, ◌&&◌, false≢true}
use mathlib.Core.Logic.{◌⊎◌, ◌≢◌, inl, inr, ⊎_elim}
use mathlib.Core.List.{List, []}
use native.Mathlib.Decide.{dec_lt}
use native.Mathlib.Omega.{arith}
use lib.Dec.{eqb, ltb, leb}
use lib.ListN.{length, replicate, get_or-eq_default}
use lib.Seq.{set-get_or}
use borrow.Author.Tests.{eqb-true, eqb-false, ltb-false, not-false}
use Rattle.std.specs.Prelude.{Option, Some, None}
use Rattle.base_limits.specs.Limits.{most_writes, most_records}
use Rattle.base_lists.proofs.ListLaws.{or_l, or_r}
use Rattle.model.specs.Store.{rank, phase_open, phase_holding, phase_collected, phase_prepared, phase_installed, phase_ended}
use Rattle.model.specs.Machine.{can_open}
use Rattle.base_protocol.specs.declared.Step.{Step}
use Rattle.base_protocol.specs.declared.Step.TheVariants as ask
use Rattle.base_protocol.specs.declared.Refusal.{Refusal}
use Rattle.base_protocol.specs.declared.Answer.{Answer}
use Rattle.base_protocol.specs.declared.Answer.TheVariants as tell
use Rattle.base_protocol.specs.declared.Sizes.{Sizes}
use Rattle.base_protocol.specs.View.{sizes_view, number_told}
use Rattle.table.specs.Fields.{stamp_of, holder_of}
use Rattle.table.specs.declared.lists.Write.{Write}
use Rattle.table.specs.declared.lists.ReadRecord.{ReadRecord}
use Rattle.table_scans.specs.Scans.{read_prefix}
use Rattle.table_buckets.specs.Buckets.{precedes}
use Rattle.txn.specs.View.{phase_view}
use Rattle.txn.specs.Methods.{idle_of, with_mark, taken_by, too_many, hold_of, capture_at, collect_of, write_of}
use Rattle.txn.specs.declared.Transaction.{Transaction}
use Rattle.txn_begin.specs.Begin.{spent, begin_of}
use Rattle.finish_install.specs.Install.{install_of}
use Rattle.finish_publish.specs.Publish.{end_of, publish_of, abort_of}
use Rattle.txn_needs.specs.Needs.{front}
use Rattle.txn_needs.specs.Taken.{any_taken, any_claimed}
use Rattle.write_verdict.specs.Judged.{verdict_of}
use Rattle.write_prepare.specs.Prepare.{reads_taken_in, validate_of, is_clear, lacks, needed_into, most_needed, prepare_with, prepare_of}
use Rattle.read_match.specs.Matching.{look}
use Rattle.read_record.specs.Recording.{known_pointers}
use Rattle.read.specs.Rows.{matched_rows, new_records, room_for, answer_of, reading_of, reading_by, rows_of}
use Rattle.txn_places.specs.Places.{misses_of, live_in}
use Rattle.step.specs.Steps.{Tables, Moved, publish_step, stays, in_buckets, in_lists, in_found, done_by, step_of}
use Rattle.step.specs.declared.Place.{Place}
use Rattle.step.specs.Words.{Words, beside, place_for, moved_by, words_after}
use Rattle.step_bridge.proofs.Placed.{after}
use Rattle.shape.specs.Shape.{tables_lent, shape_of, words_of}
use Rattle.call.specs.Calls.{asker, has_ended, swept_for, called_by, words_called, call_of, closed_of, open_of}
use Rattle.call_promises.specs.Refused.{Marks}

-- a test of a step: what holds either way holds
guard : {P : Type 0} (test : Bool) → (test ≡ true → P) → (test ≡ false → P) → P
guard true p q = p refl
guard false p q = q refl

-- where an answer is a refusal, this holds of it; else that
abbrev Outcome : Answer → (Refusal → Type 0) → Type 0 → Type 0
Outcome (tell.Refused n) P Q = P n
Outcome tell.Done P Q = Q
Outcome (tell.Number n) P Q = Q
Outcome (tell.Stamp n) P Q = Q
Outcome (tell.Count n) P Q = Q
Outcome (tell.Rows n) P Q = Q
Outcome (tell.Judged v) P Q = Q

outcome : {X : Type 0} (a : Answer) (P : Refusal → Type 0) (Q : Type 0) → ((n : Refusal) → P n → X) → (Q → X) → Outcome a P Q → X
outcome (tell.Refused n) P Q p q h = p n h
outcome tell.Done P Q p q h = q h
outcome (tell.Number n) P Q p q h = q h
outcome (tell.Stamp n) P Q p q h = q h
outcome (tell.Count n) P Q p q h = q h
outcome (tell.Rows n) P Q p q h = q h
outcome (tell.Judged v) P Q p q h = q h

-- the steps that end a record
abbrev pub ends : Step → Bool
ends ask.Begin = false
ends (ask.Capture n k) = false
ends (ask.Collect n) = false
ends (ask.Rows n room) = false
ends (ask.Put n r k payload) = false
ends (ask.Erase n r) = false
ends (ask.Prepare n) = false
ends (ask.Install n) = false
ends (ask.End n) = false
ends (ask.Publish n) = true
ends (ask.Validate n) = false
ends (ask.Abort n) = true

-- a number that stays did not end
pub still-there : (n : ℕ) → has_ended n n ≡ false
still-there n = by (eqb n 0)
  where
    by : (b : Bool) → (not b && b) ≡ false
    by true = refl
    by false = refl

-- the phase is not the one of this rank
abbrev wrong_phase : Transaction → ℕ → Bool
wrong_phase t n = not (eqb (rank (phase_view t.phase)) n)

-- a capture keeps its record's number
hold-number : (t : Transaction) (lists : List ℕ) (f : Option ℕ) (i k stamp : ℕ) → (hold_of t lists f i k stamp).txn.number ≡ t.number
unfolding hold_of
hold-number t lists (Some j) i k stamp = refl
hold-number t lists None i k stamp = refl

module _ (b : Tables) (p : Place) where
  abbrev z : Sizes
  z = p.extent.sizes

  abbrev clock : ℕ
  clock = p.extent.clock

  abbrev used : ℕ
  used = p.extent.used

  abbrev t : Transaction
  t = p.txn

  -- all as found, beside the answer and the record that goes back
  abbrev refused_with : Transaction → Refusal → Moved
  refused_with u n = stays (record { answer = tell.Refused n; txn = u; clock = clock; used = used }) b

  -- a capture that finds a stale stamp
  record Stale (s : Step) (n : Refusal) (m : Moved) : Type 0 where
    key : ℕ
    captures : s ≡ ask.Capture t.number key
    live : t.number ≢ 0
    refusal : number_told n ≡ 8
    unmarked : t.marked ≡ false
    stale : precedes (stamp_of b.buckets (key % z.buckets)) t.number ≡ false
    moved : m ≡ refused_with (with_mark t) n

  -- with this refusal: as found, or marked
  abbrev Refuses : Step → Refusal → Moved → Type 0
  Refuses s n m = (m ≡ refused_with t n) ⊎ Stale s n m

  -- a step that does not refuse keeps its record's number; begin takes a free place; publish and abort end the record
  abbrev Stays : Step → Moved → Type 0
  Stays ask.Begin m = t.number ≡ 0
  Stays (ask.Capture n k) m = m.stepped.txn.number ≡ t.number
  Stays (ask.Collect n) m = m.stepped.txn.number ≡ t.number
  Stays (ask.Rows n room) m = m.stepped.txn.number ≡ t.number
  Stays (ask.Put n r k payload) m = m.stepped.txn.number ≡ t.number
  Stays (ask.Erase n r) m = m.stepped.txn.number ≡ t.number
  Stays (ask.Prepare n) m = m.stepped.txn.number ≡ t.number
  Stays (ask.Install n) m = m.stepped.txn.number ≡ t.number
  Stays (ask.End n) m = m.stepped.txn.number ≡ t.number
  Stays (ask.Publish n) m = Unit {0}
  Stays (ask.Validate n) m = m.stepped.txn.number ≡ t.number
  Stays (ask.Abort n) m = Unit {0}

  abbrev Kept : Step → Type 0 → Moved → Type 0
  Kept s Q m = Outcome m.stepped.answer (λ n. Refuses s n m) Q

  -- what a step leaves, by its outcome
  abbrev KeptBy : Step → Moved → Type 0
  KeptBy s m = Kept s (Stays s m) m

  begin-kept : KeptBy ask.Begin (done_by b p ask.Begin)
  unfolding begin_of
  begin-kept =
      guard (not (eqb t.number 0)) (λ e. rw e (inl refl))
      (λ e. let free = eqb-true t.number 0 (not-false (eqb t.number 0) e) in
      rw e (guard (spent clock (live_in p.others.numbers)) (λ e. rw e (inl refl)) (λ e. rw e free)))

  capture-kept : (i k : ℕ) → i ≡ k % z.buckets → t.number ≢ 0
      → KeptBy (ask.Capture t.number k) (in_buckets (capture_at t b.buckets b.lists i k) clock used b)
  unfolding capture_at
  capture-kept i k d l =
      guard (wrong_phase t phase_open) (λ e. rw e (inl refl))
      (λ e. rw e (guard t.marked (λ m. rw m (inl refl))
      (λ m. rw m (guard (taken_by (holder_of b.buckets i) t.number) (λ e. rw e (inl refl))
      (λ e. rw e (guard (precedes (stamp_of b.buckets i) t.number)
      (λ p. rw p (guard (too_many (read_prefix b.lists t.slot t.reads_n i) t.reads_n) (λ e. rw e (inl refl))
      (λ e. rw e (hold-number _ b.lists (read_prefix b.lists t.slot t.reads_n i) i k (stamp_of b.buckets i)))))
      (λ p. rw p (inr (record { key = k; captures = refl; live = l; refusal = refl; unmarked = refl; stale = rw d at p; moved = refl })))))))))

  collect-kept : (n : ℕ) → KeptBy (ask.Collect n) (done_by b p (ask.Collect n))
  unfolding collect_of
  collect-kept n = guard (wrong_phase t phase_holding) (λ e. rw e (inl refl)) (λ e. rw e refl)

  write_kept : (s : Step) (w : Write)
      → Kept s ((write_of t b.lists z.rows w).reply.txn.number ≡ t.number) (in_lists (write_of t b.lists z.rows w) clock used b)
  unfolding write_of
  write_kept s w =
      guard (wrong_phase t phase_open) (λ e. rw e (inl refl))
      (λ e. rw e (guard t.marked (λ m. rw m (inl refl))
      (λ m. rw m (guard (not (ltb w.row z.rows)) (λ e. rw e (inl refl))
      (λ e. rw e (guard (leb most_writes t.writes_n) (λ e. rw e (inl refl)) (λ e. rw e refl)))))))

  install-kept : (n : ℕ) → KeptBy (ask.Install n) (done_by b p (ask.Install n))
  unfolding install_of
  install-kept n = guard (wrong_phase t phase_prepared) (λ e. rw e (inl refl)) (λ e. rw e refl)

  end_kept : (n : ℕ) → KeptBy (ask.End n) (done_by b p (ask.End n))
  unfolding end_of
  end_kept n = guard (wrong_phase t phase_installed) (λ e. rw e (inl refl)) (λ e. rw e refl)

  publish-kept : (n : ℕ) → KeptBy (ask.Publish n) (done_by b p (ask.Publish n))
  unfolding publish_step publish_of
  publish-kept n = guard (wrong_phase t phase_ended) (λ e. rw e (inl refl)) (λ e. rw e tt)

  abort-kept : (n : ℕ) → KeptBy (ask.Abort n) (done_by b p (ask.Abort n))
  unfolding abort_of
  abort-kept n = guard (leb phase_installed (rank (phase_view t.phase))) (λ e. rw e (inl refl)) (λ e. rw e tt)

  validate-kept : (n : ℕ) → KeptBy (ask.Validate n) (done_by b p (ask.Validate n))
  unfolding validate_of
  validate-kept n = guard (wrong_phase t phase_open) (λ e. rw e (inl refl))
      (λ e. rw e (guard (reads_taken_in b.buckets b.lists t) (λ e. rw e (inl refl)) (λ e. rw e refl)))

  prepare-kept : (n : ℕ) → KeptBy (ask.Prepare n) (done_by b p (ask.Prepare n))
  unfolding prepare_of prepare_with
  prepare-kept n =
      guard (wrong_phase t phase_open) (λ e. rw e (inl refl))
      (λ e. rw e (guard (any_taken b.buckets (front (needed_into b.rows b.versions b.lists z.buckets t (replicate most_needed 0))) t.number)
      (λ e. rw e (inl refl))
      (λ e. rw e (guard (any_claimed b.rows b.lists t) (λ e. rw e (inl refl))
      (λ e. rw e (guard (is_clear (verdict_of b.versions b.buckets b.lists t))
      (λ e. rw e (guard (lacks b.rows b.versions b.lists p.extent p.others.prepared t) (λ e. rw e (inl refl))
      (λ e. rw e refl)))
      (λ e. rw e (inl refl))))))))

  answer-kept : (s : Step) (room : ℕ) (rs : List ℕ) (new : List ReadRecord)
      → let d = reading_by p.extent t room in
      Kept s ((answer_of b.lists b.found rs new d).reply.txn.number ≡ t.number) (in_found (answer_of b.lists b.found rs new d) clock used b)
  answer-kept s room rs new =
      guard (ltb (room_for room (length b.found)) (length rs)) (λ e. rw e (inl refl))
      (λ e. rw e (guard (ltb most_records (t.records_n + length new)) (λ e. rw e (inl refl)) (λ e. rw e refl)))

  rows-kept : (n room : ℕ) → KeptBy (ask.Rows n room) (done_by b p (ask.Rows n room))
  unfolding rows_of reading_of
  rows-kept n room =
      let l = look b.rows b.versions b.lists (reading_by p.extent t room) in
      guard (wrong_phase t phase_collected) (λ e. rw e (inl refl))
      (λ e. rw e (answer-kept (ask.Rows n room) room (matched_rows l z.rows)
      (new_records l (known_pointers b.lists t.slot t.records_n) (matched_rows l z.rows))))

  -- the record that came in is the one that the step names
  done-kept : (s : Step) → misses_of t.number s ≡ false → KeptBy s (done_by b p s)
  unfolding misses_of
  done-kept ask.Begin h = begin-kept
  done-kept (ask.Capture n k) h =
      let d : t.number ≡ n = eqb-true t.number n (not-false (eqb t.number n) (or_r (eqb n 0) (not (eqb t.number n)) h)) in
      subst (λ (m : ℕ). KeptBy (ask.Capture m k) (done_by b p (ask.Capture m k))) d
      (capture-kept (k % z.buckets) k refl (λ q. eqb-false n 0 (or_l (eqb n 0) (not (eqb t.number n)) h) (sym d ∙ q)))
  done-kept (ask.Collect n) h = collect-kept n
  done-kept (ask.Rows n room) h = rows-kept n room
  done-kept (ask.Put n r k payload) h = write_kept (ask.Put n r k payload) (record { row = r; keyed = 1; key = k; payload = payload })
  done-kept (ask.Erase n r) h = write_kept (ask.Erase n r) (record { row = r; keyed = 0; key = 0; payload = 0 })
  done-kept (ask.Prepare n) h = prepare-kept n
  done-kept (ask.Install n) h = install-kept n
  done-kept (ask.End n) h = end_kept n
  done-kept (ask.Publish n) h = publish-kept n
  done-kept (ask.Validate n) h = validate-kept n
  done-kept (ask.Abort n) h = abort-kept n

  step_kept : (s : Step) → KeptBy s (step_of b p s)
  unfolding step_of
  step_kept s = guard (misses_of t.number s) (λ e. rw e (inl refl)) (λ e. rw e (done-kept s e))

  step-refused : (s : Step) (n : Refusal) → (step_of b p s).stepped.answer ≡ tell.Refused n → Refuses s n (step_of b p s)
  step-refused s n e = subst (λ (a : Answer). Outcome a (λ n. Refuses s n (step_of b p s)) (Stays s (step_of b p s))) e
      (step_kept s)

  -- a refused step ends no record, and neither does any but publish and abort
  refused-stays : (s : Step) (n : Refusal) (m : Moved) → Refuses s n m → has_ended t.number m.stepped.txn.number ≡ false
  refused-stays s n m (inl e) = rw e (still-there t.number)
  refused-stays s n m (inr c) = rw c.moved (still-there t.number)

  same-stays : (m : Moved) → m.stepped.txn.number ≡ t.number → has_ended t.number m.stepped.txn.number ≡ false
  same-stays m e = rw e (still-there t.number)

  done-stays : (s : Step) (m : Moved) → ends s ≡ false → Stays s m → has_ended t.number m.stepped.txn.number ≡ false
  done-stays ask.Begin m d e = rw e
  done-stays (ask.Capture n k) m d e = same-stays m e
  done-stays (ask.Collect n) m d e = same-stays m e
  done-stays (ask.Rows n room) m d e = same-stays m e
  done-stays (ask.Put n r k payload) m d e = same-stays m e
  done-stays (ask.Erase n r) m d e = same-stays m e
  done-stays (ask.Prepare n) m d e = same-stays m e
  done-stays (ask.Install n) m d e = same-stays m e
  done-stays (ask.End n) m d e = same-stays m e
  done-stays (ask.Publish n) m d e = absurd (false≢true (sym d))
  done-stays (ask.Validate n) m d e = same-stays m e
  done-stays (ask.Abort n) m d e = absurd (false≢true (sym d))

  step_stays : (s : Step) → ends s ≡ false → has_ended t.number (step_of b p s).stepped.txn.number ≡ false
  step_stays s d =
      let m = step_of b p s in
      outcome m.stepped.answer (λ n. Refuses s n m) (Stays s m) (λ n h. refused-stays s n m h) (λ h. done-stays s m d h) (step_kept s)

-- where no record ended, nothing is swept
module _ (w : Words) (s : Step) where
  unswept : has_ended (asker w s).number (moved_by w s).stepped.txn.number ≡ false → called_by w s ≡ moved_by w s
  unfolding swept_for
  unswept e = rw e

  pub called-stays : ends s ≡ false → called_by w s ≡ moved_by w s
  unfolding moved_by
  called-stays d = unswept (step_stays w.tables (beside w (asker w s)) s d)

module _ (w : Words) (s : Step) (n : Refusal) where
  -- what a step leaves, with its record at its place
  abbrev placed : Moved → Words
  placed m = after w (place_for w.txns s) m

  -- past the last record there is none
  live-there : (asker w s).number ≢ 0 → place_for w.txns s < length w.txns
  live-there d = elim (dec_lt (place_for w.txns s) (length w.txns)) [
    | yes l ↦ l
    | no l ↦ absurd
        (d (ap (λ (t : Transaction). t.number) (get_or-eq_default w.txns (idle_of 0) {n = place_for w.txns s} (omega (arith, l)))))
  ]

  called-refused : (moved_by w s).stepped.answer ≡ tell.Refused n → called_by w s ≡ moved_by w s
  unfolding moved_by
  called-refused e = unswept w s
      (refused-stays w.tables (beside w (asker w s)) s n _
      (step-refused w.tables (beside w (asker w s)) s n e))

  moved-words : (moved_by w s).stepped.answer ≡ tell.Refused n → (words_after w s ≡ w) ⊎ Marks w s (words_after w s) (number_told n)
  unfolding moved_by
  moved-words e =
      ⊎_elim
      (λ q. inl (ap placed q ∙ rw (set-get_or w.txns (place_for w.txns s) (idle_of 0))))
      (λ c. inr (record {
        key = c.key;
        captures = c.captures;
        live = c.live;
        there = live-there c.live;
        refusal = c.refusal;
        unmarked = c.unmarked;
        stale = ltb-false _ _ c.stale;
        marks = ap placed c.moved;
      }))
      (step-refused w.tables (beside w (asker w s)) s n e)

  called-words : (moved_by w s).stepped.answer ≡ tell.Refused n → (words_called w s ≡ w) ⊎ Marks w s (words_called w s) (number_told n)
  called-words e = subst (λ (m : Moved). (placed m ≡ w) ⊎ Marks w s (placed m) (number_told n)) (sym (called-refused e)) (moved-words e)

  -- a refused call leaves every word as found; a stale stamp alone marks the transaction that asked
  pub refused-words : (call_of w s).answer ≡ tell.Refused n → ((call_of w s).words ≡ w) ⊎ Marks w s (call_of w s).words (number_told n)
  unfolding call_of
  refused-words = guard (shape_of w) (λ e. rw e called-words) (λ e. rw e (λ q. inl refl))

-- a refused open leaves every lent table as given, and a closed machine
pub refused-open : (rows versions buckets lists : List ℕ) (z : Sizes) (clock : ℕ) (n : Refusal)
    → (open_of rows versions buckets lists z clock).answer ≡ tell.Refused n
    → (open_of rows versions buckets lists z clock).words ≡ words_of rows versions buckets lists [] closed_of
unfolding open_of
refused-open rows versions buckets lists z clock n =
    guard (can_open (sizes_view z) clock)
    (λ e. rw e (guard (tables_lent rows versions buckets lists z) (λ e. rw e (λ q. let c : ◌≡◌ {A = ℕ} 0 1 = cc in absurd (omega arith)))
    (λ e. rw e (λ q. refl))))
    (λ e. rw e (λ q. refl))
