-- the numbers before the index are counted
use Rattle.std.proofs.Common.{◌≡◌, ◌*◌, ◌≤◌, length, take}
use Rattle.model.specs.Report.{spaced}
use Rattle.report.proofs.spaced_width.Given as goal

abbrev pub invariant-loop-n : goal.invariant-loop-n
invariant-loop-n l = (l.long ≡ length (spaced (take l.n-index l.list))) × (l.long ≤ 21 * l.n-index)
