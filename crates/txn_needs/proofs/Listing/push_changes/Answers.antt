-- The keys of one pending row more, where they changed, and none left.
use Rattle.std.proofs.Common.{sym, ◌∙◌, arith}
use Rattle.txn_needs.proofs.Laws.{rows_next, rows-done, join-turn, join-none}
use Rattle.txn_needs.proofs.Listing.push_changes.Goals as goal

pub loop-i-preserved : goal.loop-i-preserved
loop-i-preserved c = record {
  same_words = c.push_keys.ensures.same_words ∙ c.loop-i.invariant.same_words;
  listed = c.loop-i.invariant.listed
      ∙ join-turn _ _ _ _ c.loop-i.i c.write_row_at.result
      (rows_next c.args.lists.now c.args.t c.loop-i.i _ (omega arith) c.write_row_at.ensures)
      (rw (← c.changed_keys-keys.ensures) c.push_keys.ensures.listed);
}

pub returns-clause-listed : goal.returns-clause-listed
returns-clause-listed c =
    sym (c.loop-i.invariant.listed ∙ join-none _ _ _ (rows-done c.args.lists.now c.args.t c.loop-i.i (omega arith)))
