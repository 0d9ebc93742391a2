-- the line so far with the bytes that are left is the whole line
use Rattle.std.proofs.Common.{◌≡◌, ◌-◌}
use Rattle.run_script.specs.Script.{with_bytes, line_of}
use Rattle.run_script.proofs.line_of.Given as goal

abbrev pub invariant-loop-at : goal.invariant-loop-at
invariant-loop-at l = line_of l.text l.from l.to ≡ with_bytes l.text l.at (l.to - l.at) l.line
