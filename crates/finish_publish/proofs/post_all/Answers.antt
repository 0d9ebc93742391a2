-- The posting of one row more, and none left.
use Rattle.std.proofs.Common.{◌∙◌, sym, arith}
use Rattle.txn_needs.proofs.Laws.{rows_next, rows-done}
use Rattle.finish_publish.specs.Publish.{posted_all}
use Rattle.finish_publish.proofs.post_all.Goals as goal

pub loop-i-preserved : goal.loop-i-preserved
unfolding posted_all
loop-i-preserved c =
    let next = rows_next c.args.lists.now c.args.t c.loop-i.i c.write_row_at.result (omega arith) c.write_row_at.ensures in
    c.loop-i.invariant ∙ rw (next, c.post.ensures)

pub returns : goal.returns
unfolding posted_all
returns c = sym (rw (rows-done c.args.lists.now c.args.t c.loop-i.i (omega arith)) at c.loop-i.invariant)
