-- The loop of `run_sequences::play`.
use Rattle.std.proofs.Common.{length, ◌-◌}
use Rattle.run_sequences.proofs.play.Given as goal

abbrev pub decreases-loop-at : goal.decreases-loop-at
decreases-loop-at g l = length l.text - l.at
