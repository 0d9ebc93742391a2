use Rattle.std.proofs.Common.{◌≡◌, drop}
use Rattle.txn_needs.specs.Needs.{written_by}
use Rattle.finish_publish.specs.Publish.{posted_all}
use Rattle.finish_publish.proofs.post_all.Given as goal

abbrev pub invariant-loop-i : goal.invariant-loop-i
invariant-loop-i l = posted_all l.initial.rows l.lists l.row_count l.t (written_by l.lists l.t)
    ≡ posted_all l.rows l.lists l.row_count l.t (drop l.i (written_by l.lists l.t))
