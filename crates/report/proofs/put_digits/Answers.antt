-- `report::put_digits` meets its contract.
-- Assumes nothing.
use Rattle.std.proofs.Common.{◌≡◌, ◌+◌, ◌-◌, ◌/◌, ◌%◌, length, arith, length-set}
use lib.Seq.{take-length, drop-length}
use Rattle.model.specs.Report.{decimal}
use Rattle.report.proofs.Digits.{decimal-one, decimal-two, one-long, two-long, digits-left, digit-laid}
use Rattle.report.proofs.Laid.{laid_none, set-laid, sets-laid}
use Rattle.report.proofs.put_digits.Goals as goal

pub bounds-out-at : goal.bounds-out-at
bounds-out-at c = let one = one-long c.args.n c.if-n-lt10.true in omega arith

pub overflow_add-result : goal.overflow_add-result
overflow_add-result c = let one = one-long c.args.n c.if-n-lt10.true in omega arith

pub returns-then-n-lt10 : goal.returns-then-n-lt10
returns-then-n-lt10 c =
    let a = c.args in
    let one = one-long a.n c.if-n-lt10.true in
    (omega arith, rw (decimal-one a.n c.if-n-lt10.true) (set-laid a.out.now a.at (48 + a.n) (omega arith)))

pub bounds-out-at-then-n-lt100 : goal.bounds-out-at-then-n-lt100
bounds-out-at-then-n-lt100 c = let long = two-long c.args.n c.if-n-lt10.false c.if-n-lt100.true in omega arith

pub overflow_add-out-then-n-lt100-3 : goal.overflow_add-out-then-n-lt100-3
overflow_add-out-then-n-lt100-3 c = let long = two-long c.args.n c.if-n-lt10.false c.if-n-lt100.true in omega arith

pub bounds-out-at-then-n-lt100-2 : goal.bounds-out-at-then-n-lt100-2
bounds-out-at-then-n-lt100-2 c = let long = two-long c.args.n c.if-n-lt10.false c.if-n-lt100.true in rw length-set (omega arith)

pub overflow_add-result-then-n-lt100 : goal.overflow_add-result-then-n-lt100
overflow_add-result-then-n-lt100 c = let long = two-long c.args.n c.if-n-lt10.false c.if-n-lt100.true in omega arith

pub returns-then-n-lt100 : goal.returns-then-n-lt100
returns-then-n-lt100 c =
    let a = c.args in
    let long = two-long c.args.n c.if-n-lt10.false c.if-n-lt100.true in (
      omega arith,
      rw (decimal-two a.n c.if-n-lt10.false c.if-n-lt100.true) (sets-laid a.out.now a.at (48 + a.n / 10) (48 + a.n % 10) (omega arith)),
    )

pub loop-p-init : goal.loop-p-init
loop-p-init c =
    let a = c.args in
    let digits = decimal a.n in
    let long = c.width.ensures.0 in
    let whole : a.at + c.width.result - a.at ≡ length digits = omega arith in (
      omega arith,
      λ some. rw whole (take-length digits),
      rw (whole, drop-length digits) (laid_none a.out.now (a.at + c.width.result)),
    )

pub loop-p-preserved : goal.loop-p-preserved
loop-p-preserved c =
    let l = c.loop-p in
    let a = c.args in
    let front = l.invariant.1 c.loop-p-test.true in (
      omega arith,
      digits-left a.out.now l.out a.n a.at l.p l.rest (omega arith) (omega arith) front,
      digit-laid a.out.now l.out a.n a.at l.p l.rest (omega arith) (omega arith) front (omega arith) l.invariant.2,
    )

pub returns : goal.returns
returns c =
    let l = c.loop-p in
    let a = c.args in
    let long = c.width.ensures.0 in
    let first : l.p ≡ a.at = omega arith in
    let none : a.at - a.at ≡ 0 = omega arith in
    (omega arith, rw none at (rw first at l.invariant.2))
