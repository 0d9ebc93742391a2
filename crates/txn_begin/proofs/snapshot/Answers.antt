-- One place more, and all of them.
use Rattle.std.proofs.Common.{◌∙◌, arith}
use Rattle.txn_begin.specs.Begin.{snapshot_of}
use Rattle.txn_begin.proofs.Laws.{keep-turn, keep-end}
use Rattle.txn_begin.proofs.snapshot.Goals as goal

pub loop-number-preserved : goal.loop-number-preserved
loop-number-preserved c =
    c.loop-number.invariant ∙ keep-turn c.loop-number.kept _ c.args.active c.loop-number.number-index (omega arith) c.keep.ensures

pub returns : goal.returns
unfolding snapshot_of
returns c =
    let all = c.loop-number.invariant ∙ keep-end c.loop-number.kept c.args.active c.loop-number.number-index (omega arith) in
    rw (all, ← c.one_more.ensures)
