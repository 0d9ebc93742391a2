-- What a log and its report tell, from their bytes alone: each record with its line, whether it was done, who reached end, and what was read.
use Rattle.std.specs.Prelude.{ℕ, zero, suc, ◌+◌, Bool, true, false, cond, ◌&&◌, eqb, length, get_or}
use Rattle.std.proofs.Math.Option.{Option, none, some}
use mathlib.Core.List.{List, [], ◌∷◌, ◌++◌, zip, flat_map}
use Rattle.model.specs.Refusals.{begin, capture, collect, rows, write, prepare, install, end, publish, validate, abort}
use Rattle.model.specs.Log.{Command, Opening, Asking, read_record}
use Rattle.model.specs.Report.{open_word, word_of}
use Rattle.model_in_turn.specs.InTurn.{end_in}

-- the record at the front, and those of the rest; none where the front is no whole record
abbrev pub then_rest : (List ℕ → List Command) → Option (Command × List ℕ) → List Command
then_rest rest none = []
then_rest rest (some c) = c.0 ∷ rest c.1

-- at most so many records
unfoldable pub commands_for : ℕ → List ℕ → List Command
commands_for zero log = []
commands_for (suc k) log = then_rest (commands_for k) (read_record log)

-- the records of a log from its front, as far as they are whole; each has a byte at least
unfoldable pub commands_in : List ℕ → List Command
commands_in log = commands_for (length log) log

-- a byte before the first line; where no LF is to come there is no line
abbrev pub ahead : ℕ → List (List ℕ) → List (List ℕ)
ahead b [] = []
ahead b (l ∷ ls) = (b ∷ l) ∷ ls

-- the lines of a report, each with its LF
unfoldable pub lines_in : List ℕ → List (List ℕ)
lines_in [] = []
lines_in (b ∷ bs) = cond (eqb b 10) ((b ∷ []) ∷ lines_in bs) (ahead b (lines_in bs))

-- each record of a log with its line of the report, in order
unfoldable pub told : List ℕ → List ℕ → List (Command × List ℕ)
told log report = zip (commands_in log) (lines_in report)

-- the word that a record's line begins with
abbrev pub word_in : Command → List ℕ
word_in (Opening z clock) = open_word
word_in (Asking a) = word_of a

-- behind the word and one space the line has the digit 0
unfoldable pub says_done : Command → List ℕ → Bool
says_done c l = eqb (get_or l (length (word_in c) + 1) 0) 48

-- the number that an end names
abbrev pub end_by : Command → List ℕ
end_by (Opening z clock) = []
end_by (Asking a) = end_in a

-- the transactions that reached end: the numbers of the ends whose line says 0, in order
unfoldable pub ends_told : List (Command × List ℕ) → List ℕ
ends_told [] = []
ends_told (q ∷ qs) = cond (says_done q.0 q.1) (end_by q.0 ++ ends_told qs) (ends_told qs)

-- a record is a read, by a transaction of which the test holds
abbrev pub is_read : (ℕ → Bool) → Command → Bool
is_read test (Opening z clock) = false
is_read test (Asking begin) = false
is_read test (Asking (capture t k)) = false
is_read test (Asking (collect t)) = false
is_read test (Asking (rows t room)) = test t
is_read test (Asking (write t r c)) = false
is_read test (Asking (prepare t)) = false
is_read test (Asking (install t)) = false
is_read test (Asking (end t)) = false
is_read test (Asking (publish t)) = false
is_read test (Asking (validate t)) = false
is_read test (Asking (abort t)) = false

-- the lines of such reads that say 0, in order
unfoldable pub reads_where : (ℕ → Bool) → List (Command × List ℕ) → List (List ℕ)
reads_where test [] = []
reads_where test (q ∷ qs) = cond (is_read test q.0 && says_done q.0 q.1) (q.1 ∷ reads_where test qs) (reads_where test qs)

-- what transaction t read
abbrev pub reads_by : ℕ → List (Command × List ℕ) → List (List ℕ)
reads_by t qs = reads_where (λ n. eqb n t) qs

-- what all read
abbrev pub reads_told : List (Command × List ℕ) → List (List ℕ)
reads_told qs = reads_where (λ n. true) qs

-- what those that reached end read, one transaction after another, in the order of their ends
abbrev pub reads_in_turn : List (Command × List ℕ) → List (List ℕ)
reads_in_turn qs = flat_map (λ t. reads_by t qs) (ends_told qs)
