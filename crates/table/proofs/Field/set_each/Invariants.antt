use Rattle.std.proofs.Common.{◌≡◌, drop}
use Rattle.table.specs.Words.{set_fields}
use Rattle.table.proofs.Field.set_each.Given as goal

-- what is left of the list takes the table now to where all of it takes the table at first
abbrev pub invariant-loop-i : goal.invariant-loop-i
invariant-loop-i l = set_fields l.self.words l.self.at l.xs l.v (drop l.i-index l.list) ≡ set_fields l.self.words l.self.at l.fn.xs l.v l.list
