-- One pending row more, and none left.
use Rattle.std.proofs.Common.{sym, ◌∙◌, arith}
use Rattle.table.proofs.Each.{set-next, set-none}
use Rattle.txn_needs.proofs.Laws.{rows_next, rows-done}
use Rattle.txn_needs.proofs.claim_all.Goals as goal

pub loop-i-preserved : goal.loop-i-preserved
loop-i-preserved c =
    c.loop-i.invariant
    ∙ set-next _ _ _ _ _ _ _ c.write_row_at.result
    (rows_next c.args.lists.now c.args.t c.loop-i.i _ (omega arith) c.write_row_at.ensures) c.set_claim.ensures

pub returns : goal.returns
returns c = sym (c.loop-i.invariant ∙ set-none _ _ _ _ _ (rows-done c.args.lists.now c.args.t c.loop-i.i (omega arith)))
