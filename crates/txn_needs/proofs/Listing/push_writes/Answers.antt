-- The two keys of one pending row more, and none left.
use Rattle.std.proofs.Common.{sym, ◌∙◌, arith}
use Rattle.txn_needs.proofs.Laws.{rows_next, rows-done, join-turn, join-none, keys-are}
use Rattle.txn_needs.proofs.Listing.push_writes.Goals as goal

pub loop-i-preserved : goal.loop-i-preserved
loop-i-preserved c = record {
  same_words = c.push_keys.ensures.same_words ∙ c.loop-i.invariant.same_words;
  listed = c.loop-i.invariant.listed
      ∙ join-turn _ _ _ _ c.loop-i.i c.write_row_at-row.result
      (rows_next c.args.lists.now c.args.t c.loop-i.i _ (omega arith) c.write_row_at-row.ensures)
      (rw (← keys-are c.args.rows.now c.args.versions.now c.args.lists.now c.args.t _ _ _ _
      c.is_installed-installed.ensures c.old_key-old.ensures c.new_key-new.ensures) c.push_keys.ensures.listed);
}

pub returns-clause-listed : goal.returns-clause-listed
returns-clause-listed c =
    sym (c.loop-i.invariant.listed ∙ join-none _ _ _ (rows-done c.args.lists.now c.args.t c.loop-i.i (omega arith)))
