-- How a replay stops: its status, how many bytes it wrote, and the lent report.
use Rattle.std.specs.Prelude.{ℕ, Option, Some, None, List}
use Rattle.model.specs.Refusals.{NoRoom, Malformed, refusal_number}
use Rattle.report.specs.Written.{Written, written_at}
use Rattle.report.specs.Lines.{open_line, bad_line}
use Rattle.replay.specs.declared.stop.Stopped.{Stopped}

-- how a replay stopped, and the lent report afterwards
pub record Left : Type 0 where
  pub stopped : Stopped
  pub report : List ℕ

-- after a last line: with this status, or with 10 where the line did not fit
abbrev pub stop_after : Option ℕ → ℕ → ℕ → Stopped
stop_after (Some end) status at = record { status = status; wrote = end }
stop_after None status at = record { status = refusal_number NoRoom; wrote = at }

abbrev pub stop_with : Written → ℕ → ℕ → Left
stop_with w status at = record { stopped = stop_after w.wrote status at; report = w.report }

-- `bad 15`, and stop; the line of a refused open, and stop
abbrev pub malformed_at : List ℕ → ℕ → Left
malformed_at report at = stop_with (written_at report at bad_line) (refusal_number Malformed) at

abbrev pub unopened_at : List ℕ → ℕ → Left
unopened_at report why = stop_with (written_at report 0 (open_line why)) why 0
