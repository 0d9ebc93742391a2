use Rattle.std.proofs.Common.{◌∙◌, arith, get_or, ne_eqb}
use Rattle.run_script.proofs.Reading.{end_next}
use Rattle.run_script.proofs.step_end.Goals as goal

pub loop-at-preserved : goal.loop-at-preserved
loop-at-preserved c =
    let at = c.loop-at.at in
    let text = c.args.text.now in
    c.loop-at.invariant ∙ end_next text at (omega arith) ∙ rw (ne_eqb (get_or text at 0) 59 (λ e. omega (arith, e)))
