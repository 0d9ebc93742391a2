-- The first record: what a replay leaves where it is no open, where the open is refused, and where the store is opened.
-- Assumes nothing.
use Prim.Native.Nat.{ℕ, ◌+◌, ◌-◌, ◌<◌, ◌≤◌}
use mathlib.Core.Path.{◌≡◌, refl, sym, ap, subst, ◌∙◌}
use mathlib.Core.Bool.{true, false}
use mathlib.Core.Option.{none, some}
use mathlib.Core.List.{List, []}
use native.Mathlib.Omega.{arith}
use lib.ListN.{length, drop}
use lib.Seq.{take-append_seam, drop-append-add, drop-drop}
use Rattle.model.specs.Refusals.{NoRoom, refusal_number}
use Rattle.model.specs.Store.{fresh}
use Rattle.model.specs.Machine.{can_open}
use Rattle.model.specs.Replay.{Replayed, malformed, opens, replay}
use Rattle.base_protocol.specs.declared.Sizes.{Sizes}
use Rattle.base_protocol.specs.View.{sizes_view}
use Rattle.std.proofs.Common.{Some, None, Ok, Err}
use Rattle.log_records.specs.declared.Command.TheVariants.{Open, Ask}
use Rattle.log_records.specs.declared.Decoded.{Decoded}
use Rattle.log_records.specs.Records.{decoded_of}
use Rattle.log_records.proofs.Reading.{Told, NoOpen, Reads, reads, read-malformed, read-open, read-ask}
use Rattle.report.specs.Written.{Written, written_at}
use Rattle.report.specs.Lines.{bad_line, open_line}
use Rattle.report.proofs.Reported.{shown, shown-long}
use Rattle.replay.specs.declared.stop.Stopped.{Stopped}
use Rattle.replay.specs.Stops.{Left, malformed_at, unopened_at}
use Rattle.replay.specs.declared.Opened.{Opened}
use Rattle.replay.specs.Replay.{left_by, Leaves, opened_from}
use Rattle.replay.proofs.RecordByRecord.{onward, replay-ends, replay-reads, replay-grows, goes_on, goes-full}
use Rattle.replay.proofs.Lining.{room_in, On, line_on, line-off, last_line}

-- behind a text the report is as it was found
drop-shown : (text old : List ℕ) (n : ℕ) → length text ≤ n → drop n (shown text old) ≡ drop n old
drop-shown text old n h =
    let e : n ≡ length text + (n - length text) = omega arith in
    rw e (drop-append-add text (drop (length text) old) (n - length text) ∙ drop-drop (n - length text) (length text) old)

module _ (log report : List ℕ) where
  pub left-empty : length log ≤ 0 → Leaves (record { status = 0; wrote = 0 }) report (replay log (length report)) report
  unfolding replay
  left-empty h = rw (replay-ends (room_in report) log 0 none [] h) (refl, omega arith, omega arith)

  module _ (h : 0 < length log) {d : Decoded} (ed : d ≡ decoded_of log 0) where
    there : Reads log 0 d
    there = subst (λ (x : Decoded). Reads log 0 x) (sym ed) (reads log 0)

    -- malformed, or a step
    bad-by : (c : Told) → d.command ≡ c → NoOpen c → replay log (length report) ≡ malformed (room_in report) []
    unfolding replay
    bad-by (Ok (Open z clock)) e other = absurd (other z clock refl)
    bad-by (Ok (Ask s)) e other = replay-reads (room_in report) log 0 none [] _ h (read-ask there s e)
    bad-by (Err m) e other = replay-reads (room_in report) log 0 none [] _ h (read-malformed there m e)

    pub left-malformed : NoOpen d.command → (l : Left) → l ≡ malformed_at report 0 → Leaves l.stopped l.report (replay log (length report)) report
    left-malformed other l e = rw (bad-by d.command refl other) (last_line report [] bad_line (omega arith) 15 (omega arith) l e)

    module _ {z : Sizes} {clock : ℕ} (is : d.command ≡ Ok (Open z clock)) where
      opening : replay log (length report) ≡ opens (room_in report) [] (sizes_view z) clock (onward (room_in report) (drop d.next log))
      unfolding replay
      opening = replay-reads (room_in report) log 0 none [] _ h (read-open there z clock is)

      pub left-unopened : can_open (sizes_view z) clock ≡ false → (l : Left) → l ≡ unopened_at report 1
          → Leaves l.stopped l.report (replay log (length report)) report
      left-unopened q l e = rw (opening, q) (last_line report [] (open_line 1) (omega arith) 1 (omega arith) l e)

      module _ (q : can_open (sizes_view z) clock ≡ true) {line : Written} (el : line ≡ written_at report 0 (open_line 0)) where
        -- what is done behind the open
        abbrev behind : List ℕ → Replayed
        behind = onward (room_in report) (drop d.next log) (fresh (sizes_view z) clock)

        pub left-full : line.wrote ≡ None → Leaves (record { status = refusal_number NoRoom; wrote = 0 }) line.report (replay log (length report)) report
        left-full w =
            let f = line-off report [] (open_line 0) (omega arith) line el w in
            rw (opening, q, goes-full (room_in report) [] (open_line 0) behind f.full, f.report) (refl, omega arith, omega arith)

        pub too_long : line.wrote ≡ None → room_in report < length (open_line 0)
        too_long w = omega (arith, (line-off report [] (open_line 0) (omega arith) line el w).full)

        module _ {end : ℕ} (w : line.wrote ≡ Some end) where
          nothing : length {A = ℕ} [] ≤ room_in report
          nothing = omega arith

          on : On report [] (open_line 0) nothing line end
          on = line_on report [] (open_line 0) nothing line el end w

          pub fits : length (open_line 0) ≤ room_in report
          fits = omega (arith, on.fits)

          replayed : replay log (length report) ≡ behind (open_line 0)
          replayed = rw (opening, q) (goes_on (room_in report) [] (open_line 0) behind on.fits)

          pub ended : end ≡ length (open_line 0)
          ended = on.end

          pub kept : length line.report ≡ length report
          kept = rw on.report (shown-long report (open_line 0) [] (omega (arith, fits)))

          pub opened-fits : end ≤ room_in line.report
          opened-fits = rw (kept, on.end) fits

          -- where the replay stands then
          abbrev begins : Opened
          begins = record { sizes = z; clock = clock; at = d.next; wrote = end }

          from-open : opened_from log line.report begins ≡ replay log (length report)
          from-open = rw (kept, on.report, on.end, take-append_seam (open_line 0) (drop (length (open_line 0)) report)) (sym replayed)

          -- bytes behind the text are those behind the open's line
          same_rest : left_by (replay log (length report)) line.report ≡ left_by (replay log (length report)) report
          same_rest =
              let n : length (open_line 0) ≤ length (replay log (length report)).text =
              rw replayed (replay-grows (room_in report) (drop d.next log) (some (fresh (sizes_view z) clock)) (open_line 0)) in
              rw (on.report, drop-shown (open_line 0) report (length (replay log (length report)).text) n)

          pub left-on : (r : Stopped) (after : List ℕ) → Leaves r after (opened_from log line.report begins) line.report
              → Leaves r after (replay log (length report)) report
          left-on r after l = (l.0 ∙ ap (λ (m : Replayed). left_by m line.report) from-open ∙ same_rest, l.1, l.2)
