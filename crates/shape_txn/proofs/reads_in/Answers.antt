use Rattle.std.proofs.Common.{ℕ, refl, ltb, rules, tests}
use Rattle.shape_chains.proofs.Laws.{every-all}
use Rattle.table.specs.Lists.{read_at}
use Rattle.shape_txn.proofs.reads_in.Goals as goal

pub returns : goal.returns
returns c =
    let a = c.args in
    every-all (λ (i : ℕ). ltb (read_at a.lists.now a.t.slot i).bucket a.bucket_count) a.t.reads_n
    _ _ _ c.all.ensures.ran refl (λ x b q k. search (rules, tests))
