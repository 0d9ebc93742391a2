use Rattle.std.proofs.Common.{refl, ◌∙◌, eqb, get_or, arith, rules, tests}
use Rattle.shape_chains.proofs.Laws.{every-all}
use Rattle.table_postings.specs.Links.{link_at}
use Rattle.shape_postings.proofs.Laws.{every-ends}
use Rattle.shape_postings.proofs.lists_end.Goals as goal

pub returns : goal.returns
returns c =
    let a = c.args in
    every-all (λ i. eqb (link_at a.rows.now i (get_or a.last.now i 0)) 0) a.row_count _ _ _ c.all.ensures.ran refl (λ x b q k. search (rules, tests))
    ∙ every-ends a.rows.now a.row_count a.row_count a.last.now (omega arith) c.requires.1
