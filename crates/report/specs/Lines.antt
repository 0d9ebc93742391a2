-- The line of an open, of a malformed log, and of an answer.
use Rattle.std.specs.Prelude.{ℕ, ◌+◌, ◌*◌, List, [], ◌∷◌}
use Rattle.model.specs.Refusals.{Malformed, refusal_number}
use Rattle.model.specs.Report.{open_word, bad_word, word_of, line}
use Rattle.base_protocol.specs.View.{asked}
use Rattle.base_protocol.specs.declared.Step.{Step}
use Rattle.base_protocol.specs.declared.Answer.{Answer}
use Rattle.report_answers.specs.Answers.{number_of, values_of}

-- the kind's name, then the number, then the values
abbrev pub line_for : Step → Answer → List ℕ → List ℕ
line_for step answer rows = line (word_of (asked step)) (number_of answer ∷ values_of answer rows)

-- no line of an answer with so many lent rows is longer: a word of 8 bytes, five numbers and the rows, each of 20 digits after its space, LF
abbrev pub longest_line : ℕ → ℕ
longest_line rows = 8 + 21 * (5 + rows) + 1

-- `open` and its number
abbrev pub open_line : ℕ → List ℕ
open_line number = line open_word (number ∷ [])

-- `bad 15`
abbrev pub bad_line : List ℕ
bad_line = line bad_word (refusal_number Malformed ∷ [])
