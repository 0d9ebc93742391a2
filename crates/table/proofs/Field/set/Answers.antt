use Rattle.std.proofs.Common.{sym, arith}
use Rattle.table.specs.Words.{set_field}
use Rattle.table.proofs.Laws.{set_past}
use Rattle.table.proofs.Field.set.Goals as goal

pub returns-then-i-xs : goal.returns-then-i-xs
unfolding set_field
returns-then-i-xs c = c.set_word.ensures

pub returns-else-i-xs : goal.returns-else-i-xs
returns-else-i-xs c = let a = c.args in sym (set_past a.self.words a.self.at a.xs.now a.i a.v (omega arith) c.if-i-xs.false)
