use Rattle.std.proofs.Common.{sym, ◌∙◌, arith}
use Rattle.std.proofs.lemmas.Bool.{false≢true}
use Rattle.shape_chains.proofs.Laws.{every-none, every-next, every-fails}
use Rattle.shape_postings.proofs.rows_named.Goals as goal

pub loop-row-init : goal.loop-row-init
loop-row-init c = (c.requires.1, every-none _)

pub returns-then-not-row_named : goal.returns-then-not-row_named
returns-then-not-row_named c =
    let unnamed = sym c.row_named.ensures.0 ∙ c.if-not-row_named.true in
    (every-fails _ c.loop-row.row c.args.row_count (omega arith) unnamed, λ e. absurd (false≢true e))

pub loop-row-preserved : goal.loop-row-preserved
loop-row-preserved c =
    let named = sym c.row_named.ensures.0 ∙ c.if-not-row_named.false in
    (c.row_named.ensures.1, every-next _ c.loop-row.row c.loop-row.invariant.1 named)
