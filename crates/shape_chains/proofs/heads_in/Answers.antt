use Rattle.std.proofs.Common.{ℕ, leb, ◌∙◌, arith, rules}
use Rattle.table.specs.Fields.{head_of}
use Rattle.shape_chains.proofs.Laws.{every-told, every-past, head-past}
use Rattle.shape_chains.proofs.heads_in.Goals as goal

-- a row past the table has head 0
pub returns : goal.returns
returns c =
    let a = c.args in
    let test = λ (r : ℕ). leb (head_of a.rows.now r) a.used in
    every-told test c.min-end.result _
    (λ e i h. let p = c.all_below.ensures.holds e i h in search rules)
    (λ e. let p = c.all_below.ensures.fails e in search rules)
    ∙ every-past test c.min-end.result a.row_count (omega arith) (λ r h k. head-past a.rows.now r a.used (omega arith))
