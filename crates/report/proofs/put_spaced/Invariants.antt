-- the numbers before the index are written
use Rattle.std.proofs.Common.{◌≡◌, ◌+◌, length, take}
use Rattle.model.specs.Report.{spaced}
use Rattle.report.specs.Written.{laid}
use Rattle.report.proofs.put_spaced.Given as goal

abbrev pub invariant-loop-n : goal.invariant-loop-n
invariant-loop-n l =
    (l.p ≡ l.at + length (spaced (take l.n-index l.list)))
    × (l.out ≡ laid l.fn.out l.at (spaced (take l.n-index l.list)))
