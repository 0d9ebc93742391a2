-- `table_scans::least_of` meets its contract.
use Rattle.std.proofs.Common.{◌≡◌, length, sym, ◌∙◌, arith, rules}
use Rattle.base_limits.specs.Limits.{most_active}
use Rattle.table_scans.proofs.Laws.{least-next, least-end}
use Rattle.table_scans.proofs.least_of.Goals as goal

pub loop-i-preserved : goal.loop-i-preserved
loop-i-preserved c =
    let a = c.args in
    let l = c.loop-i in
    let n : length a.active ≡ most_active = search rules in
    (omega arith, l.invariant.1 ∙ (least-next a.active a.count l.i l.lowest (omega arith) ∙ rw (← c.lower-lowest.ensures)))

pub returns : goal.returns
returns c =
    let a = c.args in
    let l = c.loop-i in
    let n : length a.active ≡ most_active = search rules in
    sym (l.invariant.1 ∙ least-end a.active a.count l.i l.lowest (omega arith))
