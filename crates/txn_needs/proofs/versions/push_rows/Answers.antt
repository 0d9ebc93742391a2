-- The row of one pending write more, and none left.
use Rattle.std.proofs.Common.{sym, ◌∙◌, arith}
use Rattle.table.specs.Lists.{writes, write_of}
use Rattle.table.specs.declared.lists.Write.{Write}
use Rattle.txn_needs.proofs.Laws.{fields-next, fields-done, push-turn, push-none}
use Rattle.txn_needs.proofs.versions.push_rows.Goals as goal

pub loop-i-preserved : goal.loop-i-preserved
loop-i-preserved c = record {
  same_words = c.push.ensures.same_words ∙ c.loop-i.invariant.same_words;
  listed = c.loop-i.invariant.listed
      ∙ push-turn _ _ _ c.loop-i.i c.write_row_at.result
      (fields-next (λ (w : Write). w.row) write_of writes c.args.lists.now c.args.slot c.args.count c.loop-i.i _
      (omega arith) c.write_row_at.ensures) c.push.ensures.listed;
}

pub returns-clause-listed : goal.returns-clause-listed
returns-clause-listed c =
    sym (c.loop-i.invariant.listed
    ∙ push-none _ _
    (fields-done (λ (w : Write). w.row) write_of writes c.args.lists.now c.args.slot c.args.count c.loop-i.i (omega arith)))
