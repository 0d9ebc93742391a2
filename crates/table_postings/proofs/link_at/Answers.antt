use Rattle.table_postings.proofs.Laws.{link-first, link-later}
use Rattle.table_postings.proofs.link_at.Goals as goal

pub returns-then-place-eq0 : goal.returns-then-place-eq0
returns-then-place-eq0 c = rw (link-first _ _ _ c.if-place-eq0.true) c.first_at.ensures

pub returns-else-place-eq0 : goal.returns-else-place-eq0
returns-else-place-eq0 c = rw (link-later _ _ _ c.if-place-eq0.false) c.later_at.ensures
