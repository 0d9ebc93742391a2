use Rattle.std.proofs.Common.{◌-◌, ◌∙◌, arith}
use Rattle.table_postings.specs.Keeping.{Kept}
use Rattle.table_postings.specs.Postings.{listed_with}
use Rattle.table_postings.proofs.Laws.{keep-turn, keep-back, keep-past, keep-few, kept-all}
use Rattle.table_postings.proofs.keep_posted.Goals as goal

pub loop-place-preserved : goal.loop-place-preserved
loop-place-preserved c =
    let low = c.if-link-most.true in
    let l = c.loop-place in
    let old : Kept = record { n = l.n; lists = l.lists } in
    let few = keep-few c.args.slot (l.link - 1) c.quick_posted_with.result old _ c.keep_one-n.ensures in (
      low,
      omega arith,
      l.invariant.2
          ∙ (keep-turn _ _ _ _ _ _ _ _ _ c.loop-place-test.true low c.quick_posted_with.ensures c.keep_one-n.ensures
          ∙ rw (← c.quick_later-link.ensures)),
    )

-- the link leads past the rows
pub returns-else-link-most : goal.returns-else-link-most
unfolding listed_with
returns-else-link-most c =
    let l = c.loop-place in
    rw (← c.min-most.ensures, ← c.list_for.ensures, ← c.first_at-link.ensures)
    (kept-all _ _ _ _ _ _ _ (l.invariant.2 ∙ keep-past _ _ _ _ _ _ _ l.invariant.0 c.if-link-most.false))

-- the link leads back
pub returns-after-loop-place : goal.returns-after-loop-place
unfolding listed_with
returns-after-loop-place c =
    rw (← c.min-most.ensures, ← c.list_for.ensures, ← c.first_at-link.ensures)
    (kept-all _ _ _ _ _ _ _ (c.loop-place.invariant.2 ∙ keep-back _ _ _ _ _ _ _ c.loop-place-test.false))
