-- `report::put_number` meets its contract.
-- Assumes nothing.
use native.Mathlib.Omega.{arith}
use lib.ListN.{length-set}
use Rattle.report.proofs.Spaced.{number-long, number-laid}
use Rattle.report.proofs.put_number.Goals as goal

pub bounds-out-at : goal.bounds-out-at
bounds-out-at c = let long = number-long c.args.n in omega arith

pub put_digits-requires : goal.put_digits-requires
put_digits-requires c = let long = number-long c.args.n in simp length-set (omega arith)

pub returns : goal.returns
returns c =
    let a = c.args in
    let long = number-long a.n in
    let d = c.put_digits in
    (omega arith, number-laid a.out.now d.new.out a.at a.n (omega arith) d.ensures.1)
