use Rattle.std.proofs.Common.{sym, ◌∙◌, arith}
use Rattle.std.proofs.lemmas.List.{at_drop_more, at_drop_all}
use Rattle.table.specs.Words.{set_fields}
use Rattle.table.proofs.Field.set_each.Goals as goal

-- the entry at the index is stored, and then the rest
pub loop-i-preserved : goal.loop-i-preserved
unfolding set_fields
loop-i-preserved c =
    let a = c.args in
    let next = at_drop_more (set_fields a.self.words a.self.at c.loop-i.xs a.v) a.list.now c.loop-i.i-index 0 (omega arith) in
    rw c.set.ensures (sym next ∙ c.loop-i.invariant)

pub returns : goal.returns
unfolding set_fields
returns c =
    let a = c.args in
    sym (at_drop_all (set_fields a.self.words a.self.at c.loop-i.xs a.v) a.list.now c.loop-i.i-index c.loop-i-test.false) ∙ c.loop-i.invariant
