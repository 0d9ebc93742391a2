-- The loop of `run_cases::cut_at`.
use Rattle.std.proofs.Common.{◌-◌, ◌≤◌, length}
use Rattle.run_cases.proofs.cut_at.Given as goal

abbrev pub invariant-loop-at : goal.invariant-loop-at
invariant-loop-at l = (l.at ≤ l.cut) × (l.said ≤ length l.report)

abbrev pub decreases-loop-at : goal.decreases-loop-at
decreases-loop-at l = l.cut - l.at
