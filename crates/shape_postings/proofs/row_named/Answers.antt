use Rattle.std.proofs.Common.{◌≡◌, ℕ, ◌<◌, eq-eqb, arith}
use Rattle.table.specs.Words.{field}
use Rattle.table.specs.Fields.{posted_of}
use Rattle.table_postings.specs.Postings.{list_for}
use Rattle.table_postings.proofs.Spreading.{list-low}
use Rattle.shape_postings.proofs.Laws.{kept-unposted, kept-posted, named-posted}
use Rattle.shape_postings.proofs.row_named.Goals as goal

-- the list of the row's key is one of the store's
in-range : (n k list row : ℕ) → row < n → list ≡ list_for n k → list < n
in-range n k list row h e = rw e (list-low n k (omega arith))

pub returns-then-rows-entry-eq0 : goal.returns-then-rows-entry-eq0
unfolding field
returns-then-rows-entry-eq0 c =
    let a = c.args in
    let e : posted_of a.rows.now a.row ≡ 0 = c.if-rows-entry-eq0.true in
    (rw (eq-eqb _ _ e), kept-unposted a.rows.now a.row_count a.row a.last.now c.requires.2 e)

pub offset_bounds-last-list : goal.offset_bounds-last-list
offset_bounds-last-list c = omega (arith, in-range _ _ _ _ c.requires.0 c.list_for-list.ensures)

pub bounds-last-list : goal.bounds-last-list
bounds-last-list c = omega (arith, in-range _ _ _ _ c.requires.0 c.list_for-list.ensures)

pub offset_bounds-last-list-2 : goal.offset_bounds-last-list-2
offset_bounds-last-list-2 c = omega (arith, in-range _ _ _ _ c.requires.0 c.list_for-list.ensures)

pub bounds-last-list-2 : goal.bounds-last-list-2
bounds-last-list-2 c = omega (arith, in-range _ _ _ _ c.requires.0 c.list_for-list.ensures)

-- the place that was kept is that of the last row before it in its list
pub returns : goal.returns
unfolding field
returns c =
    let a = c.args in
    let e = c.list_for-list.ensures in
    let h = in-range _ _ _ _ c.requires.0 e in (
      named-posted a.rows.now a.row_count a.row c.link_at.result _ c.if-rows-entry-eq0.false
          (rw e at (c.requires.2.kept c.list_for-list.result h)) (rw e at c.link_at.ensures),
      rw e (kept-posted a.rows.now a.row_count a.row a.last.now c.requires.2 c.if-rows-entry-eq0.false (rw e at h)),
    )
