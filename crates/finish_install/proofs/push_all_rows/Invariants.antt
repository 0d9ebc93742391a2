use Rattle.std.proofs.Common.{◌≡◌, drop}
use Rattle.finish_install.specs.Install.{pushed_rows}
use Rattle.finish_install.proofs.push_all_rows.Given as goal

abbrev pub invariant-loop-row : goal.invariant-loop-row
invariant-loop-row l =
    pushed_rows (record { rows = l.initial.rows; versions = l.initial.versions; used = l.used }) l.lists l.t l.list
    ≡ pushed_rows (record { rows = l.rows; versions = l.versions; used = l.last }) l.lists l.t (drop l.row-index l.list)
