-- `any` over the list is the test of each of its buckets.
use Rattle.std.proofs.Common.{◌∙◌, rules, tests}
use Rattle.std.proofs.lemmas.Iterator.{YieldsList-from_slice}
use Rattle.std.proofs.lemmas.Iterator.Search.{any_from_yields_List}
use Rattle.table.specs.Fields.{holder_of}
use Rattle.txn.specs.Methods.{taken_by}
use Rattle.txn_needs.proofs.Laws.{some_listed}
use Rattle.txn_needs.proofs.any_taken.Goals as goal

pub returns : goal.returns
returns c =
    any_from_yields_List (λ b. taken_by (holder_of c.args.buckets.now b) c.args.number) _ _ _ c.any.ensures.ran
    (YieldsList-from_slice c.args.list.now cc) (λ x b q k. search (rules, tests))
    ∙ some_listed _ c.args.list.now
