-- `table_scans::read_already_recorded` meets its contract.
use Rattle.std.proofs.Common.{refl, ◌∙◌, rules, arith}
use borrow.Author.Tests.{tests}
use Rattle.std.proofs.lemmas.Iterator.{YieldsList-from_range}
use Rattle.std.proofs.lemmas.Iterator.Search.{any_from_yields_List}
use lib.Dec.{eqb}
use Rattle.table.specs.Lists.{record_at, record_of, records}
use Rattle.table_scans.proofs.Searches.{fields-any}
use Rattle.table_scans.proofs.read_already_recorded.Goals as goal

pub returns : goal.returns
returns c =
    let a = c.args in
    rw (← c.min.ensures)
    (any_from_yields_List (λ i. eqb (record_at a.lists.now a.slot i).ptr a.ptr) _ _ _ c.any.ensures.ran
    (YieldsList-from_range 0 c.min.result c.min.result refl (omega arith)) (λ x b q k. search (rules, tests))
    ∙ fields-any (λ r. r.ptr) record_of records a.lists.now a.slot c.min.result a.ptr)
