use Rattle.std.proofs.Common.{◌≡◌, ◌≤◌, ◌-◌}
use Rattle.table_postings.specs.Keeping.{Kept, keep_all}
use Rattle.table_postings.proofs.Laws.{left_of}
use Rattle.table_postings.proofs.keep_posted.Given as goal

-- what the link leads to from here on, kept behind what is kept so far, is all of the list
abbrev pub invariant-loop-place : goal.invariant-loop-place
invariant-loop-place l =
    (l.place ≤ l.most)
    × (l.n ≤ l.place)
    × (◌≡◌ {A = Kept} (keep_all l.slot (left_of l.rows l.key l.initial.link 0 l.most) (record { n = 0; lists = l.fn.lists }))
    (keep_all l.slot (left_of l.rows l.key l.link l.place l.most) (record { n = l.n; lists = l.lists })))

abbrev pub decreases-loop-place : goal.decreases-loop-place
decreases-loop-place l = l.most - l.place
