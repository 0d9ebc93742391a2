use Rattle.std.proofs.Common.{◌≡◌, refl, ◌∙◌, length, get_or, rules, tests}
use native.Mathlib.Nat.{zero-add}
use Rattle.std.proofs.lemmas.Iterator.{YieldsList-from_slice}
use Rattle.std.proofs.lemmas.Iterator.Consumers.{YieldsList-from_enumerate}
use Rattle.std.proofs.lemmas.Iterator.Search.{all_from_yields_List}
use Rattle.txn.specs.Methods.{idle_of}
use Rattle.shape.specs.Shape.{in_place}
use Rattle.shape.proofs.Laws.{every-placed}
use Rattle.shape.proofs.all_in_place.Goals as goal

pub returns : goal.returns
returns c =
    let ts = c.args.txns in
    let eight : length ts ≡ 8 = search rules in
    rw eight at (all_from_yields_List (λ p. in_place p.0 p.1) _ _ _ c.all.ensures.ran
    (YieldsList-from_enumerate (YieldsList-from_slice ts (cc)) (cc)) (λ x b q k. search (rules, tests))
    ∙ every-placed in_place 0 ts (λ i. in_place i (get_or ts i (idle_of i))) (λ i l. rw zero-add refl))
