use Rattle.std.proofs.Common.{length, get_or, not, ap, ◌∙◌, ne_eqb, ◌≤◌, rules}
use Rattle.shape.proofs.Laws.{unlike-any}
use Rattle.shape.proofs.distinct_at.Goals as goal

pub returns-else-numbers-i-eq0 : goal.returns-else-numbers-i-eq0
returns-else-numbers-i-eq0 c =
    let a = c.args in
    let within : a.i ≤ length a.numbers = search rules in
    rw (ne_eqb _ _ c.if-numbers-i-eq0.false) (ap not c.contains.ensures.value ∙ unlike-any a.numbers (get_or a.numbers a.i 0) a.i within)
