-- Wrong bodies of the module `stop` of the crate `replay`.
-- Assumes nothing.
use Prim.Native.Nat.{ℕ}
use mathlib.Core.Path.{refl}
use mathlib.Core.List.{List}
use lib.ListN.{get_or}
use Rattle.model.specs.Refusals.{WrongSize, Malformed, WrongShape, refusal_number}
use Rattle.std.proofs.Common.{Option, Some, None}
use Rattle.report.specs.Written.{written_at}
use Rattle.report.specs.Lines.{open_line, bad_line}
use Rattle.replay.specs.declared.stop.Stopped.{Stopped}
use Rattle.replay.specs.Stops.{Left, stop_after, stop_with, malformed_at, unopened_at}
use Rattle.tightness.specs.Wrong.{Excludes}
use Rattle.tightness.proofs.Apart.{apart}
use Rattle.tightness.proofs.Computes.{computes}
use Rattle.tightness.proofs.Small.{blank}

-- what the contracts of `stop_after`, `stop_malformed` and `stop_unopened` ask for
abbrev after : Option ℕ × ℕ × ℕ → Stopped
after (line, status, at) = stop_after line status at

abbrev malformed : List ℕ × ℕ → Left
malformed (report, at) = malformed_at report at

abbrev unopened : List ℕ × ℕ → Left
unopened (report, why) = unopened_at report why

-- the status, and the byte of the report at place i
abbrev status : Left → ℕ
status l = l.stopped.status

abbrev byte : ℕ → Left → ℕ
byte i l = get_or l.report i 0

-- `stop_after`: the status stays where the line did not fit
pub stop-after-no-room : Excludes after (λ (line, status, at). record { status = status; wrote = (after (line, status, at)).wrote })
stop-after-no-room = apart (None, 1, 0) (λ (s : Stopped). s.status) refl

-- `stop_after`: the last line is not counted
pub stop-after-last-line : Excludes after (λ (line, status, at). record { status = (after (line, status, at)).status; wrote = at })
stop-after-last-line = apart (Some 1, 0, 0) (λ (s : Stopped). s.wrote) refl

-- `stop_malformed`: the status of a wrong size
pub stop-malformed-size : Excludes malformed (λ (report, at). stop_with (written_at report at bad_line) (refusal_number WrongSize) at)
unfolding computes
stop-malformed-size = apart (blank, 0) status refl

-- `stop_malformed`: nothing is written
pub stop-malformed-nothing : Excludes malformed (λ (report, at). record { stopped = (malformed (report, at)).stopped; report = report })
unfolding computes
stop-malformed-nothing = apart (blank, 0) (byte 0) refl

-- `stop_unopened`: the status of a malformed record
pub stop-unopened-malformed : Excludes unopened (λ (report, why). stop_with (written_at report 0 (open_line why)) (refusal_number Malformed) 0)
unfolding computes
stop-unopened-malformed = apart (blank, refusal_number WrongSize) status refl

-- `stop_unopened`: `open 0`, as if the store were open
pub stop-unopened-zero : Excludes unopened (λ (report, why). stop_with (written_at report 0 (open_line 0)) why 0)
unfolding computes
stop-unopened-zero = apart (blank, refusal_number WrongSize) (byte 5) refl

-- `stop_unopened`: always as of a wrong size
pub stop-unopened-size : Excludes unopened (λ (report, why). unopened_at report (refusal_number WrongSize))
unfolding computes
stop-unopened-size = apart (blank, refusal_number WrongShape) status refl
