-- No write from i on has the row.
use Rattle.std.proofs.Common.{◌≡◌, min}
use Rattle.base_limits.specs.Limits.{most_writes}
use Rattle.table.specs.Lists.{writes_of}
use Rattle.table_scans.specs.Scans.{last_below, rows_written, latest_pending}
use Rattle.table_scans.proofs.latest_pending.Given as goal

abbrev pub invariant-loop-i : goal.invariant-loop-i
invariant-loop-i l = latest_pending l.lists l.slot l.count l.row ≡ last_below (rows_written (writes_of l.lists l.slot (min l.count most_writes))) l.row l.i
