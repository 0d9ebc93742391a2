-- The loop of `run_cases::lines_within`.
use Rattle.std.proofs.Common.{◌≤◌}
use Rattle.run_cases.proofs.lines_within.Given as goal

abbrev pub invariant-loop-line : goal.invariant-loop-line
invariant-loop-line l = l.said ≤ l.room
