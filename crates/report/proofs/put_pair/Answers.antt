-- `report::put_pair` meets its contract.
-- Assumes nothing.
use mathlib.Core.List.{[], ◌∷◌}
use native.Mathlib.Omega.{arith}
use Rattle.report.proofs.Spaced.{two-long, spaced-then}
use Rattle.report.proofs.put_pair.Goals as goal

pub put_number-p-requires : goal.put_number-p-requires
put_number-p-requires c = let a = c.args in let both = two-long (a.first ∷ []) (a.second ∷ []) in omega arith

pub put_number-requires : goal.put_number-requires
put_number-requires c =
    let a = c.args in
    let both = two-long (a.first ∷ []) (a.second ∷ []) in
    omega arith

pub returns : goal.returns
returns c =
    let a = c.args in
    let f = c.put_number-p in
    let s = c.put_number in
    spaced-then a.out.now f.new.out s.new.out (a.first ∷ []) (a.second ∷ []) a.at f.result s.result (omega arith)
    f.ensures.1 f.ensures.0 s.ensures.1 s.ensures.0
