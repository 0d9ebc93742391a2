-- One row more, and none left.
use Rattle.std.proofs.Common.{◌∙◌, ◌<◌, ◌≤◌, sym, length, arith, add-one, drop-cons, drop_of_length-le}
use Rattle.finish_install.specs.Install.{pushed_rows}
use Rattle.finish_install.proofs.push_all_rows.Goals as goal

pub loop-row-preserved : goal.loop-row-preserved
unfolding pushed_rows
loop-row-preserved c =
    let h : c.loop-row.row-index < length c.args.list.now = omega arith in
    c.loop-row.invariant ∙ rw (add-one, drop-cons c.args.list.now c.loop-row.row-index 0, c.push_row-last.ensures)

pub returns : goal.returns
unfolding pushed_rows
returns c =
    let h : length c.args.list.now ≤ c.loop-row.row-index = omega arith in
    sym (rw (drop_of_length-le c.args.list.now h) at c.loop-row.invariant)
