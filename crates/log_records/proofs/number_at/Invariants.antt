-- the bytes from `i` on are counted
use Rattle.std.proofs.Common.{◌≡◌, ◌+◌, ◌-◌, ◌^◌, ◌<◌, take, drop}
use Rattle.model.specs.Log.{number}
use Rattle.log_records.proofs.number_at.Given as goal

abbrev pub invariant-loop-i : goal.invariant-loop-i
invariant-loop-i g l = (l.number ≡ number (take (g.row.N - l.i) (drop (l.at + l.i) l.log))) × (l.number < 256 ^ (g.row.N - l.i))
