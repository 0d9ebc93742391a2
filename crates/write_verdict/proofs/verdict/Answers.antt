-- The mark, the first index read that has changed, and else the rows.
use Rattle.std.proofs.Common.{sym, ◌∙◌}
use Rattle.write_verdict.proofs.Judging.{verdict-mark, verdict-bucket, verdict-row}
use Rattle.write_verdict.proofs.verdict.Goals as goal

pub returns-then-t : goal.returns-then-t
returns-then-t c =
    let a = c.args in
    sym (verdict-mark a.versions.now a.buckets.now a.lists.now a.t c.if-t.true)

pub returns-in-Some : goal.returns-in-Some
returns-in-Some c =
    let a = c.args in
    c.bucket_verdict.ensures
    ∙ sym (verdict-bucket a.versions.now a.buckets.now a.lists.now a.t c.if-t.false _
    (sym c.index_read_conflict.ensures ∙ c.in-Some.is))

pub returns-in-None : goal.returns-in-None
returns-in-None c =
    let a = c.args in
    c.row_verdict.ensures
    ∙ sym (verdict-row a.versions.now a.buckets.now a.lists.now a.t c.if-t.false
    (sym c.index_read_conflict.ensures ∙ c.in-None.is))
