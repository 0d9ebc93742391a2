use Rattle.std.proofs.Common.{◌≡◌, drop}
use Rattle.txn_begin.specs.Begin.{keep_all}
use Rattle.txn_begin.proofs.snapshot.Given as goal

abbrev pub invariant-loop-number : goal.invariant-loop-number
invariant-loop-number l = keep_all l.initial.kept l.number-items ≡ keep_all l.kept (drop l.number-index l.number-items)
