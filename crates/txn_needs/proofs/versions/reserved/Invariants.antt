use Rattle.std.proofs.Common.{◌≡◌}
use Rattle.txn_needs.specs.Versions.{reserved_in}
use Rattle.txn_needs.proofs.versions.reserved.Given as goal

abbrev pub invariant-loop-slot : goal.invariant-loop-slot
invariant-loop-slot l = l.sum ≡ reserved_in l.rows l.versions l.lists l.fn.prepared l.slot
