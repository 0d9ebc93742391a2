use Rattle.std.proofs.Common.{sym, arith}
use Rattle.table.specs.Words.{field}
use Rattle.table.proofs.Laws.{field_past}
use Rattle.table.proofs.Field.get.Goals as goal

pub returns-then-i-xs : goal.returns-then-i-xs
returns-then-i-xs c = let a = c.args in sym (field_past a.self.words a.self.at a.xs.now a.i 0 (omega arith) c.if-i-xs.true)

pub returns : goal.returns
unfolding field
returns c = c.word.ensures
