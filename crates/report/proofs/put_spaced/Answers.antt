-- `report::put_spaced` meets its contract.
-- Assumes nothing.
use Rattle.std.proofs.Common.{arith}
use Rattle.model.specs.Report.{spaced}
use Rattle.report.proofs.Laid.{laid_none}
use Rattle.report.proofs.Spaced.{next-long, next-room, next-laid}
use Rattle.report.proofs.put_spaced.Goals as goal

pub loop-n-init : goal.loop-n-init
unfolding spaced
loop-n-init c = (omega arith, laid_none c.args.out.now c.args.at)

pub put_number-p-requires : goal.put_number-p-requires
put_number-p-requires c =
    let list = c.args.list.now in
    let long = next-long list c.loop-n.n-index c.loop-n-test.true in
    let fits = next-room list c.loop-n.n-index c.loop-n-test.true in
    omega arith

pub loop-n-preserved : goal.loop-n-preserved
loop-n-preserved c =
    let a = c.args in
    let l = c.loop-n in
    let d = c.put_number-p in
    let s =
    next-laid a.list.now l.n-index c.loop-n-test.true a.out.now l.out d.new.out a.at l.p d.result (omega arith) l.invariant.1
    l.invariant.0 d.ensures.1 d.ensures.0 in
    (s.0, s.1)
