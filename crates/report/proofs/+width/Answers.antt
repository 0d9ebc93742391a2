-- `report::width` meets its contract.
-- Assumes nothing.
use native.Mathlib.Omega.{arith}
use Rattle.report.proofs.Digits.{one-long, two-long, three-long, four-long, beyond-four-long, at-most-twenty}
use Rattle.report.proofs.+width.Goals as goal

pub returns-in-0-to-9 : goal.returns-in-0-to-9
returns-in-0-to-9 t c = let long = one-long c.args.n (omega arith) in (omega arith, omega arith)

pub returns-in-0-to-99 : goal.returns-in-0-to-99
returns-in-0-to-99 t c = let long = two-long c.args.n (omega arith) (omega arith) in (omega arith, omega arith)

pub returns-in-0-to-999 : goal.returns-in-0-to-999
returns-in-0-to-999 t c = let long = three-long c.args.n (omega arith) (omega arith) in (omega arith, omega arith)

pub returns-in-0-to-9999 : goal.returns-in-0-to-9999
returns-in-0-to-9999 t c = let long = four-long c.args.n (omega arith) (omega arith) in (omega arith, omega arith)

pub returns-in_default : goal.returns-in_default
returns-in_default t c =
    let n = c.args.n in
    let more = beyond-four-long n (omega arith) in
    let few = at-most-twenty n (omega arith) in
    let front = c.width.ensures.0 in
    (omega arith, omega arith)
