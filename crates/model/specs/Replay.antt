-- Replay of a whole log: a status, and the text of the report.
use Rattle.std.specs.Prelude.{ℕ, zero, suc, ◌+◌, ◌*◌, min, Bool, false, cond, not, ◌&&◌, List, [], ◌∷◌, ◌++◌, leb, length, drop}
use Rattle.std.proofs.Math.Option.{Option, none, some}
use Rattle.model.specs.Store.{Sizes, Store, fresh}
use Rattle.model.specs.Refusals.{WrongSize, NoRoom, Malformed, WrongShape, refusal_number, Step}
use Rattle.model.specs.Machine.{step, can_open}
use Rattle.model.specs.Log.{Command, Opening, Asking, read_record}
use Rattle.model.specs.Report.{open_word, bad_word, line, answer_line}

-- what replay gives back
pub record Replayed : Type 0 where
  pub status : ℕ
  pub text : List ℕ

abbrev pub stops : ℕ → List ℕ → Replayed
stops status text = record { status = status; text = text }

-- a line is written from where the last one ended; one that doesn't fit is not begun, and replay stops with 10
unfoldable pub write_then : ℕ → List ℕ → List ℕ → (List ℕ → Replayed) → Replayed
write_then room text next go = cond (leb (length text + length next) room) (go (text ++ next)) (stops (refusal_number NoRoom) text)

-- `bad 15`, and stop
abbrev pub malformed : ℕ → List ℕ → Replayed
malformed room text = write_then room text (line bad_word (refusal_number Malformed ∷ [])) (stops (refusal_number Malformed))

-- `open 0`, and on with a fresh store; a refused open stops too
abbrev pub opens : ℕ → List ℕ → Sizes → ℕ → (Store → List ℕ → Replayed) → Replayed
opens room text z clock on =
    cond (can_open z clock)
    (write_then room text (line open_word (0 ∷ [])) (on (fresh z clock)))
    (write_then room text (line open_word (refusal_number WrongSize ∷ [])) (stops (refusal_number WrongSize)))

-- a step and its line
abbrev pub steps : ℕ → List ℕ → Store → Step → (Store → List ℕ → Replayed) → Replayed
steps room text s a on = write_then room text (answer_line a (step s a).answer) (on (step s a).store)

-- kind 1 must be first and only first
abbrev pub obeys : ℕ → List ℕ → Option Store → Command → (Store → List ℕ → Replayed) → Replayed
obeys room text none (Opening z clock) on = opens room text z clock on
obeys room text none (Asking a) on = malformed room text
obeys room text (some s) (Opening z clock) on = malformed room text
obeys room text (some s) (Asking a) on = steps room text s a on

abbrev pub reads : ℕ → List ℕ → Option Store → Option (Command × List ℕ) → (List ℕ → Store → List ℕ → Replayed) → Replayed
reads room text so none on = malformed room text
reads room text so (some c) on = obeys room text so c.0 (on c.1)

-- one record, with what is done on the rest of the log; an empty log ends the replay
unfoldable pub record_then : ℕ → (List ℕ → Store → List ℕ → Replayed) → List ℕ → Option Store → List ℕ → Replayed
record_then room on [] so text = stops 0 text
record_then room on (b ∷ bs) so text = reads room text so (read_record (b ∷ bs)) on

unfoldable pub replay_for : ℕ → ℕ → List ℕ → Option Store → List ℕ → Replayed
replay_for room zero log so text = record_then room (λ more s written. stops 0 written) log so text
replay_for room (suc k) log so text = record_then room (λ more s written. replay_for room k more (some s) written) log so text

-- each record has a byte at least, so the log's length bounds the records
unfoldable pub replay_from : ℕ → List ℕ → Option Store → List ℕ → Replayed
replay_from room log so text = replay_for room (length log) log so text

-- room beyond 4,294,967,295 bytes is not used
abbrev pub most_room : ℕ
most_room = 4294967295

unfoldable pub replay : List ℕ → ℕ → Replayed
replay log room = replay_from (min room most_room) log none []

-- an open asks for sizes that the lent tables are too short for; that a size is wrong by itself comes first
abbrev pub too_short : (Sizes → Bool) → Command → Bool
too_short lent (Opening z clock) = can_open z clock && not (lent z)
too_short lent (Asking a) = false

abbrev pub opens_too_short : (Sizes → Bool) → Option (Command × List ℕ) → Bool
opens_too_short lent none = false
opens_too_short lent (some c) = too_short lent c.0

-- over lent tables: where its first record is such an open, `open 16`, and stop; else as any replay
unfoldable pub replay_lent : (Sizes → Bool) → List ℕ → ℕ → Replayed
replay_lent lent log room =
    cond (opens_too_short lent (read_record log))
    (write_then (min room most_room) [] (line open_word (refusal_number WrongShape ∷ [])) (stops (refusal_number WrongShape)))
    (replay log room)

-- status × 4,294,967,296 + bytes written
abbrev pub packed : Replayed → ℕ
packed r = r.status * 4294967296 + length r.text

-- the lent report afterwards: the text from its start, and bytes after the last line as found
abbrev pub reported : Replayed → List ℕ → List ℕ
reported r old = r.text ++ drop (length r.text) old
