-- `table_scans::active_contains` meets its contract.
use Rattle.std.proofs.Common.{◌∙◌, take, rules}
use borrow.Author.Tests.{tests}
use lib.Dec.{eqb}
use Rattle.std.proofs.lemmas.Iterator.{YieldsList-from_slice, YieldsList-from_take}
use Rattle.std.proofs.lemmas.Iterator.Search.{any_from_yields_List}
use Rattle.table_scans.proofs.Searches.{any-member}
use Rattle.table_scans.proofs.active_contains.Goals as goal

pub returns : goal.returns
returns c =
    let a = c.args in
    any_from_yields_List (λ x. eqb x a.id) _ _ _ c.any.ensures.ran
    (YieldsList-from_take a.count (YieldsList-from_slice a.active.now (cc)) (cc))
    (λ x b q k. search (rules, tests))
    ∙ any-member a.id (take a.count a.active.now)
