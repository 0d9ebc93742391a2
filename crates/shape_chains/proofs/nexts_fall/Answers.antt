use Rattle.std.proofs.Common.{ℕ, suc, ltb, sym, ◌∙◌, arith, rules}
use Rattle.table.specs.Fields.{next_of}
use Rattle.shape_chains.proofs.Laws.{every-none, every-told, every-past, next_past}
use Rattle.shape_chains.proofs.nexts_fall.Goals as goal

-- a version past the table has next 0
pub returns-then-versions-le-NEXT : goal.returns-then-versions-le-NEXT
returns-then-versions-le-NEXT c =
    let a = c.args in
    let test = λ (p : ℕ). ltb (next_of a.versions.now (suc p)) (suc p) in
    sym (every-none test) ∙ every-past test 0 a.used (omega arith) (λ p h k. next_past a.versions.now (suc p) (omega arith) (omega arith))

pub returns : goal.returns
returns c =
    let a = c.args in
    let test = λ (p : ℕ). ltb (next_of a.versions.now (suc p)) (suc p) in
    every-told test c.min-end.result _
    (λ e i h. let p = c.all_below.ensures.holds e i h in search rules)
    (λ e. let p = c.all_below.ensures.fails e in search rules)
    ∙ every-past test c.min-end.result a.used (omega arith) (λ p h k. next_past a.versions.now (suc p) (omega arith) (omega arith))
