-- `report::answer_line` meets its contract.
-- Assumes nothing.
use Rattle.std.proofs.Common.{◌-◌, length, sym, ◌∙◌, arith}
use borrow.Author.Tests.{leb-true, leb-false}
use Rattle.report.specs.Lines.{line_for}
use Rattle.report.proofs.Writing.{written-full, written_next, rest-laid}
use Rattle.report.proofs.answer_line.Goals as goal
use Rattle.report.proofs.answer_line.Goals.{then-at-room-via-then-at-room, then-at-room-via-else-at-room+then-not-answer_fits}

pub returns-then-at-room : goal.returns-then-at-room
returns-then-at-room c =
    let a = c.args in
    let text = line_for a.step a.answer a.rows.now in
    elim c.then-at-room.branch [
      | then-at-room-via-then-at-room w ↦ written-full a.report.now a.at text (omega arith)
      | then-at-room-via-else-at-room+then-not-answer_fits w ↦
          let full = leb-false (length text) (c.room_of-room.result - a.at) (sym w.answer_fits.ensures ∙ w.if-not-answer_fits.true) in
          written-full a.report.now a.at text (omega arith)
    ]

pub returns : goal.returns
returns c =
    let a = c.args in
    let text = line_for a.step a.answer a.rows.now in
    let room = c.room_of-room.ensures in
    let fits = leb-true (length text) (c.room_of-room.result - a.at) (sym c.answer_fits.ensures ∙ c.if-not-answer_fits.false) in
    let l = rest-laid a.report.now a.at text c.put_answer_line.new.rest (omega arith) c.put_answer_line.ensures.1 in
    rw (c.put_answer_line.ensures.0, l) (written_next a.report.now a.at text (omega arith))
