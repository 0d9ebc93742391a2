-- What is still to be looked at decides the least.
use Rattle.std.proofs.Common.{◌≡◌, ◌≤◌, drop, take}
use Rattle.base_limits.specs.Limits.{most_active}
use Rattle.base_lists.specs.Lists.{least}
use Rattle.table_scans.proofs.least_of.Given as goal

abbrev pub invariant-loop-i : goal.invariant-loop-i
invariant-loop-i l = (l.i ≤ most_active) × (least l.number (take l.count l.active) ≡ least l.lowest (drop l.i (take l.count l.active)))
