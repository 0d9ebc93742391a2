-- Each turn copies one row more; the first loop leaves all candidates copied.
use Prim.Native.Nat.{min}
use Rattle.std.proofs.Common.{refl, ap, ◌≡◌, ◌∙◌, ◌++◌, append-nil, length-append, arith}
use Rattle.base_limits.specs.Limits.{most_rows}
use Rattle.table.specs.Regions.{list_of}
use Rattle.table.specs.Lists.{writes, candidates, write_of, candidate_of, start_of, candidates_of, writes_of}
use Rattle.table.proofs.Spans.{list_length}
use Rattle.table_scans.specs.Scans.{rows_written}
use Rattle.table_scans.proofs.Laws.{fields-length}
use Rattle.read_gather.specs.Gathering.{only, candidate_rows, Run, keep_below}
use Rattle.read_gather.proofs.Laws.{candidates-next, pending_next, copied-few}
use Rattle.read_gather.proofs.gather.Goals as goal

pub loop-i-init : goal.loop-i-init
unfolding only list_of
loop-i-init c = refl

pub keep_below-n-requires : goal.keep_below-n-requires
keep_below-n-requires c =
    let a = c.args in
    let i = c.loop-i.i in
    omega (
      arith,
      ap (λ (k : Run). k.n) c.loop-i.invariant,
      copied-few a.out.now 0 a.bound (candidates_of a.lists.now a.t.slot i),
      list_length candidate_of candidates.w (start_of candidates a.t.slot) a.lists.now i,
      c.min-i-end.ensures,
    )

pub loop-i-preserved : goal.loop-i-preserved
loop-i-preserved c =
    let a = c.args in
    c.keep_below-n.ensures
    ∙ (ap (keep_below a.bound c.candidate_at.result) c.loop-i.invariant
    ∙ candidates-next a.out.now 0 a.bound a.lists.now a.t.slot c.loop-i.i c.candidate_at.result c.candidate_at.ensures)

pub loop-i-2-init : goal.loop-i-2-init
unfolding list_of
loop-i-2-init c =
    let e : c.loop-i.i ≡ c.min-i-end.result = omega arith in
    rw append-nil (rw (e, c.min-i-end.ensures) at c.loop-i.invariant)

pub keep_below-n-requires-in-loop-i-2 : goal.keep_below-n-requires-in-loop-i-2
keep_below-n-requires-in-loop-i-2 c =
    let a = c.args in
    let i = c.loop-i-2.i in
    let first = candidate_rows a.lists.now a.t.slot a.t.candidates_n in
    let then = rows_written (writes_of a.lists.now a.t.slot i) in
    omega (
      arith,
      ap (λ (k : Run). k.n) c.loop-i-2.invariant,
      copied-few a.out.now 0 a.bound (first ++ then),
      length-append first then,
      list_length candidate_of candidates.w (start_of candidates a.t.slot) a.lists.now (min a.t.candidates_n most_rows),
      fields-length (λ w. w.row) write_of writes a.lists.now a.t.slot i,
      c.min-i-end-2.ensures,
    )

pub loop-i-2-preserved : goal.loop-i-2-preserved
loop-i-2-preserved c =
    let a = c.args in
    let first = candidate_rows a.lists.now a.t.slot a.t.candidates_n in
    c.keep_below-n-in-loop-i-2.ensures
    ∙ (ap (keep_below a.bound c.write_row_at.result) c.loop-i-2.invariant
    ∙ pending_next a.out.now 0 a.bound first a.lists.now a.t.slot c.loop-i-2.i c.write_row_at.result c.write_row_at.ensures)
