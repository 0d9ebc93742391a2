-- `report::answer_width` meets its contract.
-- Assumes nothing.
use native.Mathlib.Omega.{arith}
use lib.ListN.{take}
use Rattle.model.specs.Report.{word_of}
use Rattle.base_protocol.specs.View.{asked}
use Rattle.report.proofs.Writing.{line-two-long}
use Rattle.report.proofs.answer_width.Goals as goal

pub returns : goal.returns
returns c =
    let a = c.args in
    let word = c.kind_width.ensures in
    let numbers = c.spaced_width.ensures.0 in
    let rows = c.spaced_width-2.ensures.0 in
    let long = line-two-long (word_of (asked a.step)) (take a.numbers.count a.numbers.list) a.rows.now in
    omega arith
