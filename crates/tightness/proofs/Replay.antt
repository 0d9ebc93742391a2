-- Wrong bodies of the crate `replay`.
-- Assumes nothing.
use Prim.Native.Nat.{ℕ, ◌+◌, ◌*◌}
use mathlib.Core.Path.{refl}
use mathlib.Core.Bool.{Bool, false, cond, not}
use mathlib.Core.Option.{Option, none, some}
use mathlib.Core.List.{List, [], ◌∷◌, ◌++◌}
use lib.ListN.{length, take, get_or, replicate, set}
use Rattle.model.specs.Refusals.{WrongShape, refusal_number}
use Rattle.model.specs.Log.{Command, Opening, Asking, fields, command_of, read_record}
use Rattle.model.specs.Replay.{Replayed, replay, packed, reported}
use Rattle.table.specs.Fields.{row_words}
use Rattle.table.specs.Lists.{writes}
use Rattle.log_records.specs.Records.{decoded_of}
use Rattle.report.specs.Lines.{open_line}
use Rattle.replay.specs.Lent.{Lent, long_enough, LeftLent, lent_left, lent_of}
use Rattle.tightness.specs.Wrong.{Excludes}
use Rattle.tightness.proofs.Apart.{apart}
use Rattle.tightness.proofs.Computes.{computes}
use Rattle.tightness.proofs.Small.{lent, blank}

-- what is told, and the lent report afterwards
abbrev Told : Type 0
Told = ℕ × List ℕ

abbrev replays : List ℕ × List ℕ → Told
replays (log, report) = (packed (replay log (length report)), reported (replay log (length report)) report)

-- a malformed log, and room for its line
abbrev malformed : List ℕ × List ℕ
malformed = (0 ∷ [], blank)

-- `toruxeng_replay`: the length stands above, the status below
pub replay-halves-swapped : Excludes replays
    (λ (log, report). (
      length (replay log (length report)).text * 4294967296 + (replay log (length report)).status,
      reported (replay log (length report)) report,
    ))
unfolding computes
replay-halves-swapped = apart malformed (λ (r : Told). r.0) refl

-- `toruxeng_replay`: the report is not written
pub replay-nothing-written : Excludes replays (λ (log, report). (packed (replay log (length report)), report))
unfolding computes
replay-nothing-written = apart malformed (λ (r : Told). get_or r.1 0 0) refl

-- `toruxeng_replay`: room that is not there is used
pub replay-past-the-room : Excludes replays (λ (log, report). (packed (replay log (length report + 1)), reported (replay log (length report + 1)) report))
unfolding computes
replay-past-the-room = apart (0 ∷ [], replicate 6 0) (λ (r : Told). r.0) refl

-- what a replay over lent tables is given
abbrev Given : Type 0
Given = List ℕ × List ℕ × Lent

abbrev lends : Given → LeftLent
lends (log, report, t) = lent_of log report t

-- an answer and a report for another, and tables for others
abbrev telling : Replayed → List ℕ → LeftLent → LeftLent
telling r report l = record { answer = packed r; report = reported r report; tables = l.tables }

abbrev leaving : Lent → LeftLent → LeftLent
leaving t l = record { answer = l.answer; report = l.report; tables = t }

-- a log that opens a store of so many rows, one version and one bucket at clock 1
abbrev opening : ℕ → List ℕ
opening rows = 22 ∷ 0 ∷ 1 ∷ 0 ∷ rows ∷ 0 ∷ 0 ∷ 0 ∷ 1 ∷ 0 ∷ 0 ∷ 0 ∷ 1 ∷ 0 ∷ 0 ∷ 0 ∷ 1 ∷ 0 ∷ 0 ∷ 0 ∷ 0 ∷ 0 ∷ 0 ∷ 0 ∷ []

-- no tables at all; those of the small store, with a word in the way and one past their size
abbrev no_tables : Lent
no_tables = record { rows = []; versions = []; buckets = []; lists = [] }

abbrev littered : Lent
littered = record { rows = set lent.0 0 9 ++ 8 ∷ []; versions = lent.1; buckets = lent.2; lists = lent.3 }

-- `toruxeng_replay_lent`: a table that is too short is taken, as by any replay
pub lent-short-taken : Excludes lends (λ (log, report, t). telling (replay log (length report)) report (lends (log, report, t)))
unfolding computes fields command_of
lent-short-taken = apart (opening 1, blank, no_tables) (λ (l : LeftLent). l.answer) refl

-- the tables are too short for an open, whose sizes may be wrong by themselves
abbrev short_first : Lent → Command → Bool
short_first t (Opening z clock) = not (long_enough t z)
short_first t (Asking a) = false

abbrev short_in : Lent → Option (Command × List ℕ) → Bool
short_in t none = false
short_in t (some c) = short_first t c.0

-- `toruxeng_replay_lent`: a table that is too short gets 16 where a size is wrong too
pub lent-short-first : Excludes lends (λ (log, report, t).
    telling
    (cond (short_in t (read_record log)) (record { status = refusal_number WrongShape; text = open_line (refusal_number WrongShape) })
    (replay log (length report)))
    report (lends (log, report, t)))
unfolding computes fields command_of
lent-short-first = apart (opening 0, blank, no_tables) (λ (l : LeftLent). l.answer) refl

-- `toruxeng_replay_lent`: the report is not written
pub lent-report-kept : Excludes lends (λ (log, report, t).
    record { answer = (lends (log, report, t)).answer; report = report; tables = (lends (log, report, t)).tables })
unfolding computes fields command_of
lent-report-kept = apart (opening 1, blank, no_tables) (λ (l : LeftLent). get_or l.report 0 0) refl

-- `toruxeng_replay_lent`: the tables are not written
pub lent-tables-kept : Excludes lends (λ (log, report, t). leaving t (lends (log, report, t)))
unfolding computes fields command_of
lent-tables-kept = apart (opening 1, blank, littered) (λ (l : LeftLent). get_or l.tables.rows 0 0) refl

-- `toruxeng_replay_lent`: the rows are cleared past their size too
pub lent-cleared-past : Excludes lends (λ (log, report, t).
    lends (log, report, record { rows = replicate (length t.rows) 0; versions = t.versions; buckets = t.buckets; lists = t.lists }))
unfolding computes fields command_of
lent-cleared-past = apart (opening 1, blank, littered) (λ (l : LeftLent). get_or l.tables.rows row_words 0) refl

-- a begin and a put of key 5 and payload 9 behind the open
abbrev putting : List ℕ
putting =
    opening 1 ++ 2 ∷ 0 ∷ 2 ∷ 0 ∷ 30 ∷ 0 ∷ 6 ∷ 0 ∷ 1 ∷ 0 ∷ 0 ∷ 0 ∷ 0 ∷ 0 ∷ 0 ∷ 0 ∷ 0 ∷ 0 ∷ 0 ∷ 0 ∷ 5 ∷ 0 ∷ 0 ∷ 0 ∷ 0 ∷ 0 ∷ 0 ∷ 0
    ∷ 9 ∷ 0 ∷ 0 ∷ 0 ∷ 0 ∷ 0 ∷ 0 ∷ 0 ∷ []

-- `toruxeng_replay_lent`: only the open leaves words in the tables
pub lent-steps-lost : Excludes lends (λ (log, report, t).
    leaving (lent_left (take (decoded_of log 0).next log) (length report) t) (lends (log, report, t)))
unfolding computes fields command_of
lent-steps-lost = apart (putting, replicate 40 0, littered) (λ (l : LeftLent). get_or l.tables.lists (writes.off + 3) 0) refl
