-- How long an answer's line is at most.
-- Assumes nothing.
use Prim.Native.Nat.{ℕ, ◌+◌, ◌^◌, ◌<◌, ◌≤◌}
use mathlib.Core.List.{List, ◌∷◌}
use native.Mathlib.Omega.{arith}
use mir.Val.{Val}
use denote.Laws.{Is}
use denote.Enum.Declared.{row as held-as, variants}
use denote.Enum.Laws.{Fields, spellss, owed}
use lib.ListN.{length, get_or, length-take}
use Rattle.model.specs.Report.{word_of}
use Rattle.base_protocol.specs.View.{asked, number_told}
use Rattle.base_protocol.specs.declared.Step.{Step}
use Rattle.base_protocol.specs.declared.Step.TheVariants as ask
use Rattle.base_protocol.specs.declared.Verdict.{Verdict}
use Rattle.base_protocol.specs.declared.Verdict.TheVariants as verdict
use Rattle.base_protocol.specs.declared.Refusal.{Refusal}
use Rattle.base_protocol.specs.declared.Refusal.TheVariants as why
use Rattle.base_protocol.specs.declared.Answer.{Answer}
use Rattle.base_protocol.specs.declared.Answer.TheVariants as tell
use Rattle.base_protocol.specs.contracts.Answer.{the_type as answer-type}
use Rattle.base_protocol.proofs.Answer.TheLaws.{the_laws as answer-laws}
use Rattle.base_protocol.specs.contracts.Verdict.{the_type as verdict-type}
use Rattle.base_protocol.proofs.Verdict.TheLaws.{the_laws as verdict-laws}
use Rattle.base_protocol.specs.contracts.Refusal.{the_type as refusal-type}
use Rattle.base_protocol.proofs.Refusal.TheLaws.{the_laws as refusal-laws}
use Rattle.report_answers.specs.Answers.{number_of, verdict_values, values_of}
use Rattle.report.specs.Lines.{line_for, longest_line}
use Rattle.report.proofs.Spaced.{Words, words_of, words-first, spaced-most, line-long}

-- no kind's name is longer than `validate`
pub word-short : (s : Step) → length (word_of (asked s)) ≤ 8
word-short ask.Begin = omega arith
word-short (ask.Capture n k) = omega arith
word-short (ask.Collect n) = omega arith
word-short (ask.Rows n room) = omega arith
word-short (ask.Put n row key payload) = omega arith
word-short (ask.Erase n row) = omega arith
word-short (ask.Prepare n) = omega arith
word-short (ask.Install n) = omega arith
word-short (ask.End n) = omega arith
word-short (ask.Publish n) = omega arith
word-short (ask.Validate n) = omega arith
word-short (ask.Abort n) = omega arith

-- at most five numbers, but for the rows
verdict-few : (v : Verdict) → length (verdict_values v) ≤ 4
verdict-few verdict.Clear = omega arith
verdict-few (verdict.Bucket bucket captured present) = omega arith
verdict-few (verdict.Row row ptr) = omega arith
verdict-few verdict.Mark = omega arith

values-few : (a : Answer) (rows : List ℕ) → length (values_of a rows) ≤ 4 + length rows
values-few tell.Done rows = omega arith
values-few (tell.Number n) rows = omega arith
values-few (tell.Stamp n) rows = omega arith
values-few (tell.Count n) rows = omega arith
values-few (tell.Rows n) rows = let said = length-take n rows in omega arith
values-few (tell.Judged v) rows = let few = verdict-few v in omega arith
values-few (tell.Refused r) rows = omega arith

-- the numbers of an answer's line have 64 bits, as its fields have
abbrev VerdictFields : Verdict → Type 0
VerdictFields v = Fields (variants verdict-type) (spellss verdict-type.parts verdict-laws) (verdict-type.to v)

verdict-words : (v : Verdict) → VerdictFields v → Words (verdict_values v)
verdict-words verdict.Clear f = (omega arith, tt)
verdict-words (verdict.Bucket bucket captured present) f = (omega arith, (f.0.1, (f.1.0.1, (f.1.1.0.1, tt))))
verdict-words (verdict.Row row ptr) f = (omega arith, (f.0.1, (f.1.0.1, tt)))
verdict-words verdict.Mark f = (omega arith, tt)

abbrev RefusalFields : Refusal → Type 0
RefusalFields r = Fields (variants refusal-type) (spellss refusal-type.parts refusal-laws) (refusal-type.to r)

number-word : (r : Refusal) → RefusalFields r → number_told r < 2 ^ 64
number-word why.WrongSize f = omega arith
number-word why.NoNumbers f = omega arith
number-word why.Full f = omega arith
number-word why.NoSuch f = omega arith
number-word why.WrongPhase f = omega arith
number-word why.NoRow f = omega arith
number-word why.Taken f = omega arith
number-word why.Stale f = omega arith
number-word why.Marked f = omega arith
number-word why.ManyReads f = omega arith
number-word why.NoRoom f = omega arith
number-word why.ManyRecords f = omega arith
number-word why.ManyWrites f = omega arith
number-word why.NoVersions f = omega arith
number-word why.Conflict f = omega arith
number-word why.Malformed f = omega arith
number-word why.WrongShape f = omega arith
number-word (why.Other number) f = f.0.1

abbrev AnswerFields : Answer → Type 0
AnswerFields a = Fields (variants answer-type) (spellss answer-type.parts answer-laws) (answer-type.to a)

said-words : (a : Answer) (rows : List ℕ) → AnswerFields a → Words rows → Words (number_of a ∷ values_of a rows)
said-words tell.Done rows f w = (omega arith, tt)
said-words (tell.Number n) rows f w = (omega arith, (f.0.1, tt))
said-words (tell.Stamp n) rows f w = (omega arith, (f.0.1, tt))
said-words (tell.Count n) rows f w = (omega arith, (f.0.1, tt))
said-words (tell.Rows n) rows f w = (omega arith, (f.0.1, words-first n rows w))
said-words (tell.Judged v) rows f w = (omega arith, verdict-words v (owed verdict-type verdict-laws v _ f.0))
said-words (tell.Refused r) rows f w = (number-word r (owed refusal-type refusal-laws r _ f.0), tt)

-- the longest line
pub line-most : (s : Step) (a : Answer) (rows : List ℕ) (vs : List Val) → Is (held-as answer-type) a vs → ((i : ℕ) → get_or rows i 0 < 2 ^ 64)
    → length (line_for s a rows) ≤ longest_line (length rows)
line-most s a rows vs has each =
    let word = word-short s in
    let few = values-few a rows in
    let most = spaced-most (number_of a ∷ values_of a rows) (said-words a rows (owed answer-type answer-laws a vs has) (words_of rows each)) in
    let long = line-long (word_of (asked s)) (number_of a ∷ values_of a rows) in
    omega arith
