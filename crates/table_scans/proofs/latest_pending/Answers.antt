-- `table_scans::latest_pending` meets its contract.
use Rattle.std.proofs.Common.{◌≡◌, ℕ, ◌+◌, ◌-◌, ◌<◌, ◌≤◌, min, cond, eqb, List, Some, sym, ◌∙◌, arith, eq-eqb}
use borrow.Author.Tests.{ne_eqb}
use Rattle.base_limits.specs.Limits.{most_writes}
use Rattle.table.specs.Lists.{writes, write_of, writes_of, write_at}
use Rattle.table_scans.specs.Scans.{last_below, rows_written}
use Rattle.table_scans.proofs.Laws.{fields-length, fields-last, last_end}
use Rattle.table_scans.proofs.latest_pending.Goals as goal

-- what a turn comes to: the write before place i, or those before that one tell
turned : (lists : List ℕ) (slot n row v i : ℕ) → 0 < i → i ≤ n → v ≡ (write_at lists slot (i - 1)).row
    → let rows = rows_written (writes_of lists slot n) in last_below rows row i ≡ cond (eqb v row) (Some (i - 1)) (last_below rows row (i - 1))
turned lists slot n row v i some h e =
    let up : i - 1 + 1 ≡ i = omega arith in
    rw up at (fields-last (λ w. w.row) write_of writes lists slot n (i - 1) v row e (omega arith))

pub loop-i-init : goal.loop-i-init
loop-i-init c =
    let a = c.args in
    rw (fields-length (λ w. w.row) write_of writes a.lists.now a.slot (min a.count most_writes), c.min-i.ensures)

pub returns-then-write_row_at-row : goal.returns-then-write_row_at-row
returns-then-write_row_at-row c =
    let a = c.args in
    sym (c.loop-i.invariant
    ∙ turned a.lists.now a.slot (min a.count most_writes) a.row c.write_row_at.result c.loop-i.i (omega arith) (omega arith) c.write_row_at.ensures
    ∙ rw (eq-eqb _ _ c.if-write_row_at-row.true))

pub loop-i-preserved : goal.loop-i-preserved
loop-i-preserved c =
    let a = c.args in
    c.loop-i.invariant
    ∙ turned a.lists.now a.slot (min a.count most_writes) a.row c.write_row_at.result c.loop-i.i (omega arith) (omega arith) c.write_row_at.ensures
    ∙ rw (ne_eqb _ _ c.if-write_row_at-row.false)

pub returns : goal.returns
returns c =
    let a = c.args in
    let done : c.loop-i.i ≡ 0 = omega arith in
    sym (c.loop-i.invariant ∙ rw done (last_end (rows_written (writes_of a.lists.now a.slot (min a.count most_writes))) a.row))
