-- Wrong bodies of the crate `report`.
-- Assumes nothing.
use Prim.Native.Nat.{ℕ}
use mathlib.Core.Path.{refl}
use mathlib.Core.List.{List, [], ◌∷◌}
use lib.ListN.{get_or}
use Rattle.model.specs.Refusals.{Malformed, WrongShape, refusal_number}
use Rattle.model.specs.Report.{open_word, bad_word, word_of, line}
use Rattle.base_protocol.specs.View.{asked}
use Rattle.base_protocol.specs.declared.Step.{Step}
use Rattle.base_protocol.specs.declared.Step.TheVariants as ask
use Rattle.base_protocol.specs.declared.Answer.{Answer}
use Rattle.base_protocol.specs.declared.Answer.TheVariants as tell
use Rattle.report_answers.specs.Answers.{values_of}
use Rattle.report.specs.Written.{Written, written_at}
use Rattle.report.specs.Lines.{line_for, open_line, bad_line}
use Rattle.tightness.specs.Wrong.{Excludes}
use Rattle.tightness.proofs.Apart.{apart}
use Rattle.tightness.proofs.Computes.{computes}
use Rattle.tightness.proofs.Small.{blank}

-- the byte of the report at place i
abbrev byte : ℕ → Written → ℕ
byte i w = get_or w.report i 0

-- `open_line`: always `open 0`
pub open-line-zero : Excludes {A = List ℕ × ℕ × ℕ} (λ (report, at, n). written_at report at (open_line n))
    (λ (report, at, n). written_at report at (open_line 0))
unfolding computes
open-line-zero = apart (blank, 0, 1) (byte 5) refl

-- `open_line`: another word
pub open-line-bad : Excludes {A = List ℕ × ℕ × ℕ} (λ (report, at, n). written_at report at (open_line n))
    (λ (report, at, n). written_at report at (line bad_word (n ∷ [])))
unfolding computes
open-line-bad = apart (blank, 0, 1) (byte 0) refl

-- `bad_line`: the number of a wrong shape
pub bad-line-shape : Excludes {A = List ℕ × ℕ} (λ (report, at). written_at report at bad_line)
    (λ (report, at). written_at report at (line bad_word (refusal_number WrongShape ∷ [])))
unfolding computes
bad-line-shape = apart (blank, 0) (byte 5) refl

-- `bad_line`: another word
pub bad-line-open : Excludes {A = List ℕ × ℕ} (λ (report, at). written_at report at bad_line)
    (λ (report, at). written_at report at (line open_word (refusal_number Malformed ∷ [])))
unfolding computes
bad-line-open = apart (blank, 0) (byte 0) refl

-- what an answer's line is written from: the report, the place, the step, the answer and the lent rows
abbrev Given : Type 0
Given = List ℕ × ℕ × Step × Answer × List ℕ

abbrev answer_line : Given → Written
answer_line (report, at, s, answer, rows) = written_at report at (line_for s answer rows)

-- a row that was found
abbrev found : Given
found = (blank, 0, ask.Rows 1 1, tell.Rows 1, 9 ∷ [])

-- `answer_line`: always from the report's start
pub answer-line-from-start : Excludes answer_line (λ (report, at, s, answer, rows). answer_line (report, 0, s, answer, rows))
unfolding computes
answer-line-from-start = apart (blank, 1, ask.Rows 1 1, tell.Rows 1, 9 ∷ []) (byte 0) refl

-- `answer_line`: always the word of begin
pub answer-line-begin : Excludes answer_line (λ (report, at, s, answer, rows). answer_line (report, at, ask.Begin, answer, rows))
unfolding computes
answer-line-begin = apart found (byte 0) refl

-- `answer_line`: the found rows are not said
pub answer-line-rows-unsaid : Excludes answer_line (λ (report, at, s, answer, rows). written_at report at (line_for s answer []))
unfolding computes
answer-line-rows-unsaid = apart found (byte 8) refl

-- `answer_line`: the values stand where the number stands
pub answer-line-no-number : Excludes answer_line (λ (report, at, s, answer, rows). written_at report at (line (word_of (asked s)) (values_of answer rows)))
unfolding computes
answer-line-no-number = apart found (byte 5) refl
