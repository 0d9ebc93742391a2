-- the line from `from` on ends where that from `at` on ends
use Rattle.std.proofs.Common.{◌≡◌, drop}
use Rattle.run_script.specs.Script.{step_end, end_from}
use Rattle.run_script.proofs.step_end.Given as goal

abbrev pub invariant-loop-at : goal.invariant-loop-at
invariant-loop-at l = step_end l.text l.from ≡ end_from l.at (drop l.at l.text)
