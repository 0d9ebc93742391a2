-- The log that runs in turn what another log ran, and what is then the same by the two reports.
use Rattle.std.specs.Prelude.{ℕ, ◌≤◌, min, ◌≡◌, true, List, [], ◌∷◌, map, length}
use Rattle.base_lists.specs.Lists.{all_of, join}
use Rattle.model.specs.Store.{fresh}
use Rattle.model.specs.Refusals.{Step}
use Rattle.model.specs.Log.{Command, Opening, Asking}
use Rattle.model.specs.Replay.{stops, most_room, replay}
use Rattle.log_records.specs.Layout.{bytes_of}
use Rattle.model_in_turn.specs.InTurn.{turn_of}
use Rattle.log_in_turn.specs.Told.{commands_in, lines_in, told, says_done, reads_told, reads_in_turn}

-- the steps that records ask for
unfoldable pub asked_in : List Command → List Step
asked_in [] = []
asked_in (Opening z clock ∷ cs) = asked_in cs
asked_in (Asking a ∷ cs) = a ∷ asked_in cs

-- the same open, and the transactions that reached end, each whole with its publish, in the order of their ends
unfoldable pub commands_in_turn : List Command → List Command
commands_in_turn [] = []
commands_in_turn (Opening z clock ∷ cs) = Opening z clock ∷ map Asking (turn_of (fresh z clock) (asked_in cs))
commands_in_turn (Asking a ∷ cs) = []

-- their bytes, one record after another
unfoldable pub log_in_turn : List ℕ → List ℕ
log_in_turn log = join bytes_of (commands_in_turn (commands_in log))

-- Were a log's payments as if made in turn? With room enough the replay of the turn's log ends with 0 and this report, which tells every record of it, each as
-- done; and its reads are those of the log's transactions that reached end, line for line.
pub record ReplayedInTurn (log : List ℕ) (room : ℕ) : Type 0 where
  pub report : List ℕ
  pub ends-well : (more : ℕ) → length report ≤ min more most_room → replay (log_in_turn log) more ≡ stops 0 report
  pub all_told : length (lines_in report) ≡ length (commands_in (log_in_turn log))
  pub all_done : all_of (λ q. says_done q.0 q.1) (told (log_in_turn log) report) ≡ true
  pub run-told : length (lines_in (replay log room).text) ≡ length (commands_in log)
  pub same_reads : reads_told (told (log_in_turn log) report) ≡ reads_in_turn (told log (replay log room).text)
