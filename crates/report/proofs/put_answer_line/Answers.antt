-- `report::put_answer_line` meets its contract.
-- Assumes nothing.
use Prim.Native.Nat.{ℕ, ◌+◌}
use mathlib.Core.List.{List, ◌∷◌}
use mathlib.Core.Path.{◌≡◌}
use native.Mathlib.Omega.{arith}
use lib.ListN.{length}
use Rattle.model.specs.Report.{word_of, spaced}
use Rattle.base_protocol.specs.View.{asked}
use Rattle.base_protocol.specs.declared.Step.{Step}
use Rattle.base_protocol.specs.declared.Answer.{Answer}
use Rattle.report_answers.specs.Answers.{number_of, values_of}
use Rattle.report.specs.Lines.{line_for}
use Rattle.report.proofs.Spaced.{line-long}
use Rattle.report.proofs.Writing.{line-done}
use Rattle.report.proofs.put_answer_line.Goals as goal

-- the word and the numbers, and the length of their line by its parts
abbrev numbers : Answer → List ℕ → List ℕ
numbers a rows = number_of a ∷ values_of a rows

parts : (s : Step) (a : Answer) (rows : List ℕ)
    → length (line_for s a rows) ≡ length (word_of (asked s)) + length (spaced (number_of a ∷ values_of a rows)) + 1
parts s a rows = line-long (word_of (asked s)) (number_of a ∷ values_of a rows)

pub put_kind-behind_word-requires : goal.put_kind-behind_word-requires
put_kind-behind_word-requires c = let a = c.args in let long = parts a.step a.answer a.rows.now in omega arith

pub put_answer-end-requires : goal.put_answer-end-requires
put_answer-end-requires c = let a = c.args in let long = parts a.step a.answer a.rows.now in omega arith

pub bounds-rest-end : goal.bounds-rest-end
bounds-rest-end c = let a = c.args in let long = parts a.step a.answer a.rows.now in omega arith

pub overflow_add-result : goal.overflow_add-result
overflow_add-result c = let a = c.args in let long = parts a.step a.answer a.rows.now in omega arith

pub returns : goal.returns
returns c =
    let a = c.args in
    let w = c.put_kind-behind_word in
    let n = c.put_answer-end in
    let long = parts a.step a.answer a.rows.now in (
      omega arith,
      line-done a.rest.now (word_of (asked a.step)) (numbers a.answer a.rows.now) w.new.rest n.new.rest w.result n.result (omega arith)
          w.ensures.1 w.ensures.0 n.ensures.1 n.ensures.0,
    )
