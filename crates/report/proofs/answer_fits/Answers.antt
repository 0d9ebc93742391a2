-- `report::answer_fits` meets its contract.
-- Assumes nothing.
use borrow.Author.Tests.{leb-true, le-leb, lt-leb}
use Prim.Native.Nat.{ℕ, min}
use mathlib.Core.List.{List}
use mathlib.Core.Path.{◌≡◌, refl, ap, sym, ◌∙◌}
use native.Mathlib.Omega.{arith}
use lib.Dec.{leb}
use lib.ListN.{length, take}
use lib.Seq.{length-take-le}
use Rattle.model.specs.Report.{word_of}
use Rattle.base_protocol.specs.View.{asked}
use Rattle.report.specs.Lines.{line_for, longest_line}
use Rattle.report.proofs.Answers.{line-said}
use Rattle.report.proofs.Fitting.{line-most}
use Rattle.report.proofs.Spaced.{spaced-least}
use Rattle.report.proofs.Writing.{line-two-long}
use Rattle.report.proofs.answer_fits.Goals as goal

-- the rows that are said
said-long : (k n : ℕ) (rows : List ℕ) → k ≡ min n (length rows) → length (take k rows) ≡ k
said-long k n rows e = length-take-le k rows (omega arith)

pub returns-then-surely_fits : goal.returns-then-surely_fits
returns-then-surely_fits c =
    let a = c.args in
    let sure = leb-true (longest_line (length a.rows.now)) a.room (sym c.surely_fits.ensures ∙ c.if-surely_fits.true) in
    let most = line-most a.step a.answer a.rows.now _ c.well_formed.1.1.0 (λ i. omega (arith, c.type_inv.rows i)) in
    sym (le-leb (length (line_for a.step a.answer a.rows.now)) a.room (omega arith))

pub returns-else-said-room : goal.returns-else-said-room
returns-else-said-room c =
    let a = c.args in
    let held = c.numbers_of-numbers.result in
    let k = c.min-said.result in
    let said = take k a.rows.now in
    let long = said-long k held.rows a.rows.now c.min-said.ensures in
    let least = spaced-least said in
    let parts = line-two-long (word_of (asked a.step)) (take held.count held.list) said in
    rw (← line-said a.step a.answer a.rows.now _ held k refl c.numbers_of-numbers.ensures.0 c.min-said.ensures)
    (lt-leb k a.room (omega arith) ∙ sym (lt-leb _ a.room (omega arith)))

pub answer_width-requires : goal.answer_width-requires
answer_width-requires c =
    let long = said-long _ _ _ c.min-said.ensures in
    let few = c.numbers_of-numbers.ensures.1 in
    (omega arith, omega arith)

pub returns-then-said-room : goal.returns-then-said-room
returns-then-said-room c =
    let a = c.args in
    let lined =
    line-said a.step a.answer a.rows.now _ c.numbers_of-numbers.result c.min-said.result refl
    c.numbers_of-numbers.ensures.0 c.min-said.ensures in
    ap (λ n. leb n a.room) (c.answer_width.ensures ∙ ap length lined)
