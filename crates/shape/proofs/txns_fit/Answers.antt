use Rattle.std.proofs.Common.{◌≡◌, refl, ◌∙◌, length, rules, tests}
use Rattle.std.proofs.lemmas.Iterator.{YieldsList-from_slice}
use Rattle.std.proofs.lemmas.Iterator.Search.{all_from_yields_List}
use Rattle.shape_txn.specs.TxnShape.{place_fits}
use Rattle.shape.proofs.Laws.{every-record}
use Rattle.shape.proofs.txns_fit.Goals as goal

pub returns : goal.returns
returns c =
    let a = c.args in
    let fits = place_fits a.rows.now a.versions.now a.lists.now a.extent in
    let eight : length a.txns ≡ 8 = search rules in
    rw eight at (all_from_yields_List fits _ _ _ c.all.ensures.ran (YieldsList-from_slice a.txns cc) (λ x b q k. search (rules, tests))
    ∙ every-record fits a.txns _ (λ i l. refl))
