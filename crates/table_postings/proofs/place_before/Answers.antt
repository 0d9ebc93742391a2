use Rattle.std.proofs.Common.{◌∙◌}
use Rattle.table_postings.proofs.Laws.{last_turn, last-back, last-past, last-all}
use Rattle.table_postings.proofs.place_before.Goals as goal

pub loop-place-preserved : goal.loop-place-preserved
loop-place-preserved c =
    let low = c.if-link-row.true in
    (low, c.loop-place.invariant.1 ∙ (last_turn _ _ _ _ c.loop-place-test.true low ∙ rw (← c.quick_later-link.ensures)))

-- the link leads past the row
pub returns-else-link-row : goal.returns-else-link-row
returns-else-link-row c =
    let l = c.loop-place in
    rw (← c.first_at-link.ensures) (last-all _ _ _ _ (l.invariant.1 ∙ last-past _ _ _ _ l.invariant.0 c.if-link-row.false))

-- the link leads back
pub returns-after-loop-place : goal.returns-after-loop-place
returns-after-loop-place c =
    rw (← c.first_at-link.ensures) (last-all _ _ _ _ (c.loop-place.invariant.1 ∙ last-back _ _ _ _ c.loop-place-test.false))
