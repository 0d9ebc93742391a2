-- A turn reads a line further on.
use Rattle.std.proofs.Common.{arith}
use Rattle.run_script.proofs.Reading.{end-behind}
use Rattle.run_sequences.proofs.play.Goals as goal

pub loop-at-smaller : goal.loop-at-smaller
loop-at-smaller g c = omega (arith, end-behind c.args.text.now c.loop-at.at c.loop-at-test.true, c.step_end-end.ensures)
