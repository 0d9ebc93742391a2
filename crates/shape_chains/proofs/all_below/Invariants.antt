use Rattle.std.proofs.Common.{ℕ, ◌*◌, ◌<◌, true}
use Rattle.shape_chains.proofs.all_below.Given as goal

-- the test holds at each number so far
abbrev pub invariant-loop-four : goal.invariant-loop-four
invariant-loop-four g l = (k : ℕ) → k < 4 * l.four → goal.F-post g l.test k true

abbrev pub invariant-loop-i : goal.invariant-loop-i
invariant-loop-i g l = (k : ℕ) → k < l.i → goal.F-post g l.test k true
