-- What the code leaves of the model's replay.
use Rattle.std.specs.Prelude.{ℕ, ◌≤◌, min, ◌≡◌, Result, Ok, Err, List, length, take, drop}
use Rattle.std.proofs.Math.Option.{some}
use Rattle.model.specs.Store.{fresh}
use Rattle.model.specs.Replay.{Replayed, reported, replay_from, most_room}
use Rattle.base_protocol.specs.View.{sizes_view}
use Rattle.replay.specs.declared.Opened.{Opened}
use Rattle.replay.specs.declared.stop.Stopped.{Stopped}
use Rattle.replay.specs.Stops.{Left}

-- what the model's replay leaves of a lent report
abbrev pub left_by : Replayed → List ℕ → Left
left_by r old = record { stopped = record { status = r.status; wrote = length r.text }; report = reported r old }

-- how a replay ended: with status 0 behind its last record, or as it stopped
abbrev pub ended_as : Result ℕ Stopped → Stopped
ended_as (Ok wrote) = record { status = 0; wrote = wrote }
ended_as (Err s) = s

-- what is left is what the model's replay leaves, and status and length each fit their half
abbrev pub Leaves : Stopped → List ℕ → Replayed → List ℕ → Type 0
Leaves r report m old = (◌≡◌ {A = Left} (record { stopped = r; report = report }) (left_by m old)) × (r.status ≤ 16) × (r.wrote ≤ most_room)

-- the model's replay behind its open
abbrev pub opened_from : List ℕ → List ℕ → Opened → Replayed
opened_from log report o =
    replay_from (min (length report) most_room) (drop o.at log) (some (fresh (sizes_view o.sizes) o.clock)) (take o.wrote report)
