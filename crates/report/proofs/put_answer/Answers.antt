-- `report::put_answer` meets its contract.
-- Assumes nothing.
use Prim.Native.Nat.{ℕ, ◌+◌, ◌≤◌}
use mathlib.Core.List.{List, [], ◌∷◌}
use mathlib.Core.Path.{◌≡◌}
use native.Mathlib.Omega.{arith}
use lib.ListN.{length, take}
use Rattle.model.specs.Report.{spaced}
use Rattle.report.proofs.Answers.{take-least}
use Rattle.report.proofs.Spaced.{two-long, spaced-then}
use Rattle.report.proofs.put_answer.Goals as goal

-- in the arm of rows: their count, those that are said, and the room of both
room : (at long n : ℕ) (rows : List ℕ) → at + length (spaced (0 ∷ n ∷ take n rows)) ≤ long
    → at + length (spaced (0 ∷ n ∷ [])) + length (spaced (take n rows)) ≤ long
room at long n rows h = let both = two-long (0 ∷ n ∷ []) (take n rows) in omega arith

pub put_pair-behind_count-requires : goal.put_pair-behind_count-requires
put_pair-behind_count-requires c =
    let both = room c.args.at _ c.in-Rows.n c.args.rows.now (rw c.in-Rows.is at c.requires) in omega arith

pub put_spaced-requires : goal.put_spaced-requires
put_spaced-requires c =
    let rows = c.args.rows.now in
    let both = room c.args.at _ c.in-Rows.n rows (rw c.in-Rows.is at c.requires) in
    rw (take-least rows c.in-Rows.n c.min-said.result c.min-said.ensures) (omega arith)

pub returns-in-Rows : goal.returns-in-Rows
returns-in-Rows c =
    let a = c.args in
    let n = c.in-Rows.n in
    let f = c.put_pair-behind_count in
    let s = c.put_spaced in
    let rows = take c.min-said.result a.rows.now in
    let said : rows ≡ take n a.rows.now = take-least a.rows.now n c.min-said.result c.min-said.ensures in
    let both : a.at + length (spaced (0 ∷ n ∷ [])) + length (spaced rows) ≤ length a.rest.now =
    rw said (room a.at _ n a.rows.now (rw c.in-Rows.is at c.requires)) in
    let whole = two-long (0 ∷ n ∷ []) rows in
    rw (c.in-Rows.is, ← said)
    (spaced-then a.rest.now f.new.out s.new.out (0 ∷ n ∷ []) rows a.at f.result s.result (omega arith)
    f.ensures.1 f.ensures.0 s.ensures.1 s.ensures.0)
