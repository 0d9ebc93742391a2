use Rattle.std.proofs.Common.{◌≡◌, ◌≤◌, ◌-◌}
use Rattle.table_postings.proofs.Laws.{last_of}
use Rattle.table_postings.proofs.place_before.Given as goal

-- what the link leads to from here on ends where all of the list ends
abbrev pub invariant-loop-place : goal.invariant-loop-place
invariant-loop-place l = (l.place ≤ l.row) × (last_of l.rows l.initial.link 0 l.row ≡ last_of l.rows l.link l.place l.row)

abbrev pub decreases-loop-place : goal.decreases-loop-place
decreases-loop-place l = l.row - l.place
