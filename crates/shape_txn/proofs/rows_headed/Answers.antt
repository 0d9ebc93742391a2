use Rattle.std.proofs.Common.{ℕ, refl, rules, tests}
use Rattle.shape_chains.proofs.Laws.{every-all}
use Rattle.table.specs.Lists.{write_at}
use Rattle.shape_txn.specs.TxnShape.{row_fits}
use Rattle.shape_txn.proofs.rows_headed.Goals as goal

pub returns : goal.returns
returns c =
    let a = c.args in
    every-all (λ (i : ℕ). row_fits a.rows.now a.versions.now a.lists.now a.t (write_at a.lists.now a.t.slot i).row) a.t.writes_n
    _ _ _ c.all.ensures.ran refl (λ x b q k. search (rules, tests))
