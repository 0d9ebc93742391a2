-- A replay over lent tables: what it answers, and every word that it leaves.
use Rattle.std.specs.Prelude.{ℕ, zero, suc, ◌+◌, min, ◌≡◌, Result, Ok, Err, Bool, cond, ◌&&◌, List, leb, ltb, length, replicate}
use Rattle.base_limits.specs.Limits.{most_rows}
use Rattle.model.specs.Store as model
use Rattle.model.specs.Machine.{can_open}
use Rattle.model.specs.Replay.{Replayed, replay_lent, packed, reported, most_room}
use Rattle.base_protocol.specs.declared.Sizes.{Sizes}
use Rattle.base_protocol.specs.declared.Step.{Step}
use Rattle.base_protocol.specs.declared.Answer.TheVariants as tell
use Rattle.base_protocol.specs.View.{sizes_view}
use Rattle.txn_places.specs.Places.{free_places}
use Rattle.step.specs.Steps.{Tables}
use Rattle.step.specs.Words.{Words, moved_by, words_after}
use Rattle.shape.specs.Shape.{tables_lent}
use Rattle.call.specs.Calls.{open_of}
use Rattle.log_records.specs.declared.Command.{Command}
use Rattle.log_records.specs.declared.Command.TheVariants.{Open, Ask}
use Rattle.log_records.specs.declared.Malformed.{Malformed}
use Rattle.log_records.specs.Records.{decoded_of, sizes_told}
use Rattle.report.specs.Lines.{open_line, line_for}

-- the lent tables
pub record Lent : Type 0 where
  pub rows : List ℕ
  pub versions : List ℕ
  pub buckets : List ℕ
  pub lists : List ℕ

abbrev pub lent_in : Words → Lent
lent_in w = record { rows = w.tables.rows; versions = w.tables.versions; buckets = w.tables.buckets; lists = w.tables.lists }

-- tables that are long enough for these sizes
abbrev pub long_enough : Lent → model.Sizes → Bool
long_enough t z = tables_lent t.rows t.versions t.buckets t.lists (sizes_told z)

-- the store behind its open, with a row list for its reads that has room for every row
abbrev pub opened_in : Lent → Sizes → ℕ → Words
opened_in t z clock =
    let w = (open_of t.rows t.versions t.buckets t.lists z clock).words in
    record {
      tables = record {
        rows = w.tables.rows;
        versions = w.tables.versions;
        buckets = w.tables.buckets;
        lists = w.tables.lists;
        found = replicate most_rows 0;
      };
      txns = w.txns;
      sizes = w.sizes;
      clock = w.clock;
      used = w.used;
    }

-- the tables as an accepted open leaves them, from some that were lent to it
pub record Opens (b : Tables) (z : Sizes) (clock : ℕ) : Type 0 where
  pub lent : Lent
  pub accepted : (open_of lent.rows lent.versions lent.buckets lent.lists z clock).answer ≡ tell.Done
  pub opened : b ≡ (opened_in lent z clock).tables

-- the words over such tables: no version, no transaction
abbrev pub fresh_in : Tables → Sizes → ℕ → Words
fresh_in b z clock = record { tables = b; txns = free_places; sizes = z; clock = clock; used = 0 }

-- the line of a step
abbrev pub line_after : Words → Step → List ℕ
line_after w s = line_for s (moved_by w s).stepped.answer (moved_by w s).found

-- what is done where a record asks for a step; any other leaves the words
abbrev pub where_asked : Result Command Malformed → Words → (Step → Words) → Words
where_asked (Ok (Open z clock)) w on = w
where_asked (Ok (Ask s)) w on = on s
where_asked (Err malformed) w on = w

-- the words behind the records from a place of the log on, n at the most, where so many bytes of the report are written: each step is carried out,
-- and one whose line does not fit is the last
unfoldable pub words_for : ℕ → List ℕ → ℕ → ℕ → ℕ → Words → Words
words_for room log zero at wrote w = w
words_for room log (suc n) at wrote w =
    cond (ltb at (length log))
    (where_asked (decoded_of log at).command w (λ s.
    cond (leb (wrote + length (line_after w s)) room)
    (words_for room log n (decoded_of log at).next (wrote + length (line_after w s)) (words_after w s))
    (words_after w s)))
    w

-- each record has a byte at least, so the log's length bounds the records
abbrev pub words_from : ℕ → List ℕ → ℕ → ℕ → Words → Words
words_from room log at wrote w = words_for room log (length log) at wrote w

-- the words behind an open and its line
abbrev pub words_opened : ℕ → List ℕ → ℕ → Words → Words
words_opened room log at w = cond (leb (length (open_line 0)) room) (words_from room log at (length (open_line 0)) w) w

-- the two tests of an open over these tables
abbrev pub opens_over : Lent → Sizes → ℕ → Bool
opens_over t z clock = can_open (sizes_view z) clock && tables_lent t.rows t.versions t.buckets t.lists z

-- the tables behind a whole log: as found where nothing was opened
abbrev pub lent_after : Result Command Malformed → ℕ → List ℕ → ℕ → Lent → Lent
lent_after (Ok (Open z clock)) room log at t =
    cond (opens_over t z clock) (lent_in (words_opened room log at (opened_in t z clock))) t
lent_after (Ok (Ask s)) room log at t = t
lent_after (Err malformed) room log at t = t

unfoldable pub lent_left : List ℕ → ℕ → Lent → Lent
lent_left log room t = lent_after (decoded_of log 0).command room log (decoded_of log 0).next t

-- all that a replay over lent tables leaves
pub record LeftLent : Type 0 where
  pub answer : ℕ
  pub report : List ℕ
  pub tables : Lent

abbrev pub replayed_in : List ℕ → List ℕ → Lent → Replayed
replayed_in log report t = replay_lent (long_enough t) log (length report)

unfoldable pub lent_of : List ℕ → List ℕ → Lent → LeftLent
lent_of log report t = record {
  answer = packed (replayed_in log report t);
  report = reported (replayed_in log report t) report;
  tables = lent_left log (min (length report) most_room) t;
}
