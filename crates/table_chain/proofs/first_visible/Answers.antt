-- `table_chain::first_visible` meets its contract.
use Rattle.std.proofs.Common.{◌≡◌, ℕ, ◌/◌, ◌<◌, ◌≤◌, List, length, sym, ◌∙◌, rules}
use borrow.Author.Tests.{le-leb, lt-leb, lt-ltb, le-ltb, eq-eqb, ne_eqb}
use mathlib.Core.Bool.{and-false}
use Rattle.base_lists.proofs.ListLaws.{below-least}
use Rattle.table.specs.Fields.{version_words}
use Rattle.table_chain.specs.declared.Snapshot.{Snapshot}
use Rattle.table_chain.specs.Chain.{active_of, pointer, walk_from, first_visible}
use Rattle.table_chain.proofs.first_visible.Goals as goal
use Rattle.table_chain.proofs.first_visible.Goals.{then-used-at-via-then-used-at, then-used-at-via-else-used-at+then-versions-at}

-- where p is known, what the walk answers tells
walked : (versions : List ℕ) (used : ℕ) (s : Snapshot) (p r : ℕ) → p ≤ used → p < length versions / version_words
    → r ≡ walk_from versions (active_of s) s.xmax p → first_visible versions used s p ≡ pointer r
unfolding first_visible
walked versions used s p r h k e = rw (le-leb _ _ h, lt-ltb _ _ k, ← e)

pub returns-then-used-at : goal.returns-then-used-at
unfolding first_visible
returns-then-used-at c = elim c.then-used-at.branch [
  | then-used-at-via-then-used-at w ↦ rw (lt-leb _ _ w.if-used-at.true)
  | then-used-at-via-else-used-at+then-versions-at w ↦ rw (le-ltb _ _ w.if-versions-at.true, and-false)
]

pub new-sight-requires : goal.new-sight-requires
new-sight-requires c = λ n l. below-least _ _ n (rw c.least_of-low.ensures at l)

pub returns-in-0 : goal.returns-in-0
returns-in-0 c =
    let a = c.args in
    let w = rw (c.new-sight.ensures.active, c.new-sight.ensures.xmax) at c.walk.ensures in
    sym (walked a.versions.now a.used a.s a.p c.walk.result c.if-used-at.false c.if-versions-at.false w
    ∙ rw (eq-eqb _ _ c.in-0.is))

pub returns-in_default : goal.returns-in_default
returns-in_default c =
    let a = c.args in
    let w = rw (c.new-sight.ensures.active, c.new-sight.ensures.xmax) at c.walk.ensures in
    sym (walked a.versions.now a.used a.s a.p c.walk.result c.if-used-at.false c.if-versions-at.false w
    ∙ rw (ne_eqb c.walk.result 0 (search rules)))
