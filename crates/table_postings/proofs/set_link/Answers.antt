use Rattle.table_postings.proofs.Laws.{set-link-first, set-link-later}
use Rattle.table_postings.proofs.set_link.Goals as goal

pub returns-then-place-eq0 : goal.returns-then-place-eq0
returns-then-place-eq0 c = rw (set-link-first _ _ _ _ c.if-place-eq0.true) c.set_first.ensures

pub returns-else-place-eq0 : goal.returns-else-place-eq0
returns-else-place-eq0 c = rw (set-link-later _ _ _ _ c.if-place-eq0.false) c.set_later.ensures
