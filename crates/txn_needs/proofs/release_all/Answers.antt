-- One bucket more, and none left.
use Rattle.std.proofs.Common.{sym, ◌∙◌, ◌<◌, ◌≤◌, length, arith, add-one, drop-cons, drop_of_length-le}
use Rattle.table.proofs.Each.{clear_next, clear_none}
use Rattle.txn_needs.proofs.release_all.Goals as goal

pub loop-bucket-preserved : goal.loop-bucket-preserved
loop-bucket-preserved c =
    let h : c.loop-bucket.bucket-index < length c.args.list.now = omega arith in
    c.loop-bucket.invariant
    ∙ clear_next _ _ _ _ _ _ _ _ (rw (add-one, drop-cons c.args.list.now c.loop-bucket.bucket-index 0)) c.release.ensures

pub returns : goal.returns
returns c =
    let h : length c.args.list.now ≤ c.loop-bucket.bucket-index = omega arith in
    sym (c.loop-bucket.invariant ∙ clear_none _ _ _ _ _ (drop_of_length-le c.args.list.now h))
