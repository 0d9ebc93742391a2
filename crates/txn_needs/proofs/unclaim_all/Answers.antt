-- One pending row more, and none left.
use Rattle.std.proofs.Common.{sym, ◌∙◌, arith}
use Rattle.table.proofs.Each.{clear_next, clear_none}
use Rattle.txn_needs.proofs.Laws.{rows_next, rows-done}
use Rattle.txn_needs.proofs.unclaim_all.Goals as goal

pub loop-i-preserved : goal.loop-i-preserved
loop-i-preserved c =
    c.loop-i.invariant
    ∙ clear_next _ _ _ _ _ _ _ c.write_row_at.result
    (rows_next c.args.lists.now c.args.t c.loop-i.i _ (omega arith) c.write_row_at.ensures) c.unclaim.ensures

pub returns : goal.returns
returns c = sym (c.loop-i.invariant ∙ clear_none _ _ _ _ _ (rows-done c.args.lists.now c.args.t c.loop-i.i (omega arith)))
