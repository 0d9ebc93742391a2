use Rattle.std.proofs.Common.{◌≡◌}
use Rattle.table.specs.Words.{clear_every}
use Rattle.table.proofs.Field.clear_every.Given as goal

abbrev pub invariant-loop-i : goal.invariant-loop-i
invariant-loop-i l = l.xs ≡ clear_every l.self.words l.self.at l.fn.xs l.i l.v
