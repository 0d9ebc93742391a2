-- `report::spaced_width` meets its contract.
-- Assumes nothing.
use Rattle.std.proofs.Common.{refl, arith, get_or}
use Rattle.model.specs.Report.{spaced}
use Rattle.report.proofs.Spaced.{number-long, next-long}
use Rattle.report.proofs.spaced_width.Goals as goal

pub loop-n-init : goal.loop-n-init
unfolding spaced
loop-n-init c = (refl, omega arith)

pub loop-n-preserved : goal.loop-n-preserved
loop-n-preserved c =
    let l = c.loop-n in
    let a = c.args in
    let next = next-long a.list.now l.n-index c.loop-n-test.true in
    let number = number-long (get_or a.list.now l.n-index 0) in
    let w = c.width.ensures.0 in
    (omega arith, omega arith)
