use Rattle.std.proofs.Common.{ℕ, refl, rules, tests}
use Rattle.shape_chains.proofs.Laws.{every-all}
use Rattle.table.specs.Lists.{record_at}
use Rattle.shape_txn.specs.TxnShape.{record_in}
use Rattle.shape_txn.proofs.records_in.Goals as goal

pub returns : goal.returns
returns c =
    let a = c.args in
    every-all (λ (i : ℕ). record_in a.row_count a.used (record_at a.lists.now a.t.slot i).row (record_at a.lists.now a.t.slot i).ptr) a.t.records_n
    _ _ _ c.all.ensures.ran refl (λ x b q k. search (rules, tests))
