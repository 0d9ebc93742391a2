-- `any` over the numbers of the index reads is the test of each of the listed buckets.
use Rattle.std.proofs.Common.{◌∙◌, arith, rules, tests}
use Rattle.std.proofs.lemmas.Iterator.{YieldsList-from_range}
use Rattle.std.proofs.lemmas.Iterator.Search.{any_from_yields_List}
use Rattle.table.specs.Fields.{holder_of}
use Rattle.table.specs.Lists.{read_at}
use Rattle.txn.specs.Methods.{taken_by}
use Rattle.write_prepare.proofs.Laws.{taken_numbered}
use Rattle.write_prepare.proofs.reads_taken.Goals as goal

pub returns : goal.returns
returns c =
    let t = c.args.t in
    any_from_yields_List (λ i. taken_by (holder_of c.args.buckets.now (read_at c.args.lists.now t.slot i).bucket) t.number) _ _ _
    c.any.ensures.ran (YieldsList-from_range 0 c.min-most.result c.min-most.result (cc) (omega arith)) (λ x b q k. search (rules, tests))
    ∙ rw c.min-most.ensures (taken_numbered c.args.buckets.now c.args.lists.now t)
