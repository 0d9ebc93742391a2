-- One index read more, and none left.
use Rattle.std.proofs.Common.{sym, ◌∙◌, arith}
use Rattle.txn_needs.proofs.Laws.{reads_next, reads_done, push-turn, push-none}
use Rattle.txn_needs.proofs.Listing.push_reads.Goals as goal

pub loop-i-preserved : goal.loop-i-preserved
loop-i-preserved c = record {
  same_words = c.push.ensures.same_words ∙ c.loop-i.invariant.same_words;
  listed = c.loop-i.invariant.listed
      ∙ push-turn _ _ _ c.loop-i.i c.read_bucket_at.result
      (reads_next c.args.lists.now c.args.t c.loop-i.i _ (omega arith) c.read_bucket_at.ensures) c.push.ensures.listed;
}

pub returns-clause-listed : goal.returns-clause-listed
returns-clause-listed c =
    sym (c.loop-i.invariant.listed ∙ push-none _ _ (reads_done c.args.lists.now c.args.t c.loop-i.i (omega arith)))
