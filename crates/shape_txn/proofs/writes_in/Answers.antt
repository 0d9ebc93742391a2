use Rattle.std.proofs.Common.{ℕ, refl, ltb, rules, tests}
use Rattle.shape_chains.proofs.Laws.{every-all}
use Rattle.table.specs.Lists.{write_at}
use Rattle.shape_txn.proofs.writes_in.Goals as goal

pub returns : goal.returns
returns c =
    let a = c.args in
    every-all (λ (i : ℕ). ltb (write_at a.lists.now a.t.slot i).row a.row_count) a.t.writes_n
    _ _ _ c.all.ensures.ran refl (λ x b q k. search (rules, tests))
