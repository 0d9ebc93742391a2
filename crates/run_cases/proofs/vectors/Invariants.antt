-- The loop of `run_cases::vectors`.
use Rattle.std.proofs.Common.{length, ◌+◌, ◌≤◌}
use Rattle.run_cases.proofs.vectors.Given as goal

abbrev pub invariant-loop-vector : goal.invariant-loop-vector
invariant-loop-vector g l = l.n + length l.rest ≤ length l.fn.file

abbrev pub decreases-loop-vector : goal.decreases-loop-vector
decreases-loop-vector g l = length l.rest
