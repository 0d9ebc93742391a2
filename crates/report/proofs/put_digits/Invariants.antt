-- the digits from `p` on are written, and those before it are the digits of `rest`
use Rattle.std.proofs.Common.{◌≡◌, ◌-◌, ◌<◌, ◌≤◌, take, drop}
use Rattle.model.specs.Report.{decimal}
use Rattle.report.specs.Written.{laid}
use Rattle.report.proofs.put_digits.Given as goal

abbrev pub invariant-loop-p : goal.invariant-loop-p
invariant-loop-p l =
    (l.at ≤ l.p)
    × (l.at < l.p → take (l.p - l.at) (decimal l.n) ≡ decimal l.rest)
    × (l.out ≡ laid l.fn.out l.p (drop (l.p - l.at) (decimal l.n)))
