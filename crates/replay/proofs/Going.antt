-- The loop of the replay: what stands before each record, and each way out of the loop.
-- Assumes nothing.
use Prim.Native.Nat.{ℕ, ◌+◌, ◌-◌, ◌<◌, ◌≤◌}
use mathlib.Core.Path.{◌≡◌, refl, sym, ap, subst, ◌∙◌}
use mathlib.Core.Option.{some}
use mathlib.Core.List.{List, ◌++◌}
use native.Mathlib.Omega.{arith}
use lib.ListN.{length, drop, length-append}
use lib.Seq.{get_or-set_same}
use Rattle.base_limits.specs.Limits.{most_rows, most_live}
use Rattle.model.specs.Refusals.{NoRoom, refusal_number}
use Rattle.model.specs.Store.{Store}
use Rattle.model.specs.Machine as machine
use Rattle.model.specs.Machine.{step, step_in}
use Rattle.model.specs.Report.{answer_line}
use Rattle.model.specs.Replay.{Replayed, malformed, write_then, replay_from}
use Rattle.model.proofs.Good.{step-in}
use Rattle.base_protocol.specs.View.{asked}
use Rattle.base_protocol.specs.declared.Step.{Step}
use Rattle.txn.specs.Methods.{idle_of}
use Rattle.step.specs.Steps.{Moved}
use Rattle.step.specs.Words.{Words, view, place_for, moved_by, words_after}
use Rattle.step_bridge.proofs.Placed.{after}
use Rattle.step_bridge.proofs.Same.{Same}
use Rattle.step_bridge.proofs.Stepping.{step_same}
use Rattle.step_bridge.proofs.Running.{Stands, step-stands, step-view}
use Rattle.std.proofs.Common.{Some, None, Ok, Err}
use Rattle.log_records.specs.declared.Command.TheVariants.{Open, Ask}
use Rattle.log_records.specs.declared.Decoded.{Decoded}
use Rattle.log_records.specs.Records.{decoded_of}
use Rattle.log_records.proofs.Reading.{Told, NoStep, Reads, reads, read-malformed, read-open, read-ask, read-on}
use Rattle.report.specs.Written.{Written, written_at}
use Rattle.report.specs.Lines.{bad_line, line_for}
use Rattle.report.proofs.Reported.{shown}
use Rattle.report.proofs.Answers.{line-told}
use Rattle.replay.specs.Stops.{Left, malformed_at}
use Rattle.replay.specs.Replay.{Leaves}
use Rattle.replay.specs.Lent.{words_for}
use Rattle.replay.proofs.Leaving.{words-end, words-none, words-full, words-on}
use Rattle.replay.proofs.RecordByRecord.{onward, replay-ends, replay-reads, goes_on, goes-full}
use Rattle.replay.proofs.Lining.{room_in, line_on, line-off, last_line}

-- before the record at a place: the words stand for a store, the text stands in the report, and the replay of the rest is the whole, in text and in words
pub record Going (log old : List ℕ) (m : Replayed) (final : Words) (at wrote : ℕ) (report : List ℕ) (w : Words) : Type 0 where
  pub stands : Stands w
  pub text : List ℕ
  pub long : wrote ≡ length text
  pub laid : report ≡ shown text old
  pub fits : length text ≤ room_in old
  pub rest : m ≡ replay_from (room_in old) (drop at log) (some (view w)) text
  pub more : ℕ
  pub enough : length log ≤ at + more
  pub words : final ≡ words_for (room_in old) log more at wrote w

module _ {log old : List ℕ} {m : Replayed} {final : Words} {at wrote : ℕ} {report : List ℕ} {w : Words} (g : Going log old m final at wrote report w) where
  -- the log is at its end
  pub ends : length log ≤ at → Leaves (record { status = 0; wrote = wrote }) report m old
  ends h = rw (g.rest, replay-ends (room_in old) log at (some (view w)) g.text h, g.long, g.laid) (refl, omega arith, omega (arith, g.fits))

  pub ends_words : length log ≤ at → w ≡ final
  ends_words h = sym (g.words ∙ words-end (room_in old) log g.more at wrote w h)

  module _ (h : at < length log) {d : Decoded} (ed : d ≡ decoded_of log at) where
    there : Reads log at d
    there = subst (λ (x : Decoded). Reads log at x) (sym ed) (reads log at)

    -- a malformed record, or a second open
    bad-by : (c : Told) → d.command ≡ c → NoStep c → m ≡ malformed (room_in old) g.text
    bad-by (Ok (Open z clock)) e other = g.rest ∙ replay-reads (room_in old) log at (some (view w)) g.text _ h (read-open there z clock e)
    bad-by (Ok (Ask s)) e other = absurd (other s refl)
    bad-by (Err m) e other = g.rest ∙ replay-reads (room_in old) log at (some (view w)) g.text _ h (read-malformed there m e)

    pub stops-malformed : NoStep d.command → (l : Left) → l ≡ malformed_at report wrote → Leaves l.stopped l.report m old
    stops-malformed other l e =
        let e' : l ≡ malformed_at (shown g.text old) (length g.text) = rw (← g.laid, ← g.long) e in
        rw (bad-by d.command refl other) (last_line old g.text bad_line g.fits 15 (omega arith) l e')

    pub stops-words : NoStep d.command → w ≡ final
    stops-words other = sym (g.words ∙ words-none (room_in old) log g.more at wrote w (subst (λ (x : Decoded). NoStep x.command) ed other))

    module _ {s : Step} (asks : d.command ≡ Ok (Ask s)) where
      -- the next record is further on
      pub further : at < d.next
      further = (read-on there (Ask s) asks).0

      module _ (room : most_rows ≤ length w.tables.found) where
        same : Same w s
        same = step_same w g.stands.sized g.stands.good s (omega (arith, room))

        -- the record that the step leaves stands in the slot of its place
        pub slot_kept : {mv : Moved} → mv ≡ moved_by w s → {k : ℕ} → k ≡ place_for w.txns s → k < most_live → mv.stepped.txn.slot ≡ k
        slot_kept em {k = k} ek below =
            let z = ((step-stands w s g.stands.good same).sized.txns k below).slot in
            let n : k < length w.txns = omega (arith, g.stands.sized.eight, below) in
            rw (em, ← get_or-set_same w.txns k (moved_by w s).stepped.txn (idle_of k) n) (rw (← ek) at z)

        -- the line that the code writes is the model's
        abbrev line_is : List ℕ
        line_is = line_for s (moved_by w s).stepped.answer (moved_by w s).found

        line_same : line_is ≡ answer_line (asked s) (step (view w) (asked s)).answer
        line_same =
            rw (same.answer, same.lent) (line-told s (step_in (view w) (asked s)).answer w.tables.found)
            ∙ ap (λ (o : machine.Stepped). answer_line (asked s) o.answer) (sym (step-in (view w) g.stands.good (asked s)))

        -- what is done behind it
        abbrev goes_to : List ℕ → Replayed
        goes_to = onward (room_in old) (drop d.next log) (view (words_after w s))

        written_then : m ≡ write_then (room_in old) g.text line_is goes_to
        written_then =
            g.rest
            ∙ replay-reads (room_in old) log at (some (view w)) g.text _ h (read-ask there s asks)
            ∙ ap (λ (l : List ℕ). write_then (room_in old) g.text l (onward (room_in old) (drop d.next log) (step (view w) (asked s)).store))
            (sym line_same)
            ∙ ap (λ (v : Store). write_then (room_in old) g.text line_is (onward (room_in old) (drop d.next log) v))
            (sym (step-view w s g.stands.good same))

        module _ {mv : Moved} (em : mv ≡ moved_by w s) {line : Written} (el : line ≡ written_at report wrote (line_for s mv.stepped.answer mv.found)) where
          lined : line ≡ written_at (shown g.text old) (length g.text) line_is
          lined = rw (← g.laid, ← g.long, ← em) el

          -- the line does not fit
          pub stops-full : line.wrote ≡ None → Leaves (record { status = refusal_number NoRoom; wrote = wrote }) line.report m old
          stops-full q =
              let f = line-off old g.text line_is g.fits line lined q in
              rw (written_then, goes-full (room_in old) g.text line_is goes_to f.full, f.report, g.long) (refl, omega arith, omega (arith, g.fits))

          pub full-words : line.wrote ≡ None → {k : ℕ} → k ≡ place_for w.txns s → after w k mv ≡ final
          full-words q ek =
              let f = line-off old g.text line_is g.fits line lined q in
              rw (ek, em) (sym (g.words ∙ words-full (room_in old) log g.more at wrote w h g.enough s (rw (← ed) asks) (rw g.long f.full)))

          -- on, with the words that the step leaves
          pub goes : {k : ℕ} → k ≡ place_for w.txns s → (end : ℕ) → line.wrote ≡ Some end → Going log old m final d.next end line.report (after w k mv)
          goes ek end q =
              let f = line_on old g.text line_is g.fits line lined end q in
              rw (ek, em) (record {
                stands = step-stands w s g.stands.good same;
                text = g.text ++ line_is;
                long = f.end;
                laid = f.report;
                fits = rw (length-append g.text line_is) f.fits;
                rest = written_then ∙ goes_on (room_in old) g.text line_is goes_to f.fits;
                more = g.more - 1;
                enough = omega (arith, g.enough, further);
                words = g.words ∙ onto f.fits f.end;
              })
            where
              ends_at : length g.text + length line_is ≤ room_in old → wrote + length line_is ≤ room_in old
              ends_at f = rw g.long f

              onto : length g.text + length line_is ≤ room_in old → end ≡ length (g.text ++ line_is)
                  → words_for (room_in old) log g.more at wrote w ≡ words_for (room_in old) log (g.more - 1) d.next end (words_after w s)
              onto f e =
                  let n : wrote + length line_is ≡ end = sym (e ∙ length-append g.text line_is ∙ rw g.long) in
                  words-on (room_in old) log g.more at wrote w h g.enough s (rw (← ed) asks) (ends_at f) ∙ rw (n, ed)
