-- The page of statements: request (xiii) over replay, of every log of bytes whose replay ends with 0. Assumes nothing.
-- All that it says is defined in specs/; each proof is one line. A log to see it at work stands in Sample.
use Prim.Native.Nat.{ℕ}
use mathlib.Core.Path.{◌≡◌}
use mathlib.Core.List.{List}
use Rattle.model.specs.Replay.{replay}
use Rattle.log_records.specs.Layout.{Bytes}
use Rattle.log_in_turn.specs.Told.{commands_in}
use Rattle.log_in_turn.specs.LogInTurn.{commands_in_turn, log_in_turn, ReplayedInTurn}
use Rattle.log_in_turn.proofs.ReadBack.{in-turn, turn-read}

-- The report of the log that runs them in turn has the same reads.
pub replayed-in-turn : (log : List ℕ) → Bytes log → (room : ℕ) → (replay log room).status ≡ 0 → ReplayedInTurn log room
replayed-in-turn = in-turn

-- The turn's log is read back as the commands that were laid out.
pub turn-read-back : (log : List ℕ) → Bytes log → (room : ℕ) → (replay log room).status ≡ 0 → commands_in (log_in_turn log) ≡ commands_in_turn (commands_in log)
turn-read-back = turn-read
