-- `any` over the numbers of the pending writes is the test of each of their rows.
use Rattle.std.proofs.Common.{◌∙◌, arith, rules, tests}
use Rattle.std.proofs.lemmas.Iterator.{YieldsList-from_range}
use Rattle.std.proofs.lemmas.Iterator.Search.{any_from_yields_List}
use Rattle.table.specs.Fields.{claim_of}
use Rattle.table.specs.Lists.{writes, write_of, write_at}
use Rattle.table.specs.declared.lists.Write.{Write}
use Rattle.txn.specs.Methods.{taken_by}
use Rattle.txn_needs.proofs.Laws.{some_numbered}
use Rattle.txn_needs.proofs.any_claimed.Goals as goal

pub returns : goal.returns
returns c =
    let t = c.args.t in
    any_from_yields_List (λ i. taken_by (claim_of c.args.rows.now (write_at c.args.lists.now t.slot i).row) t.number) _ _ _
    c.any.ensures.ran (YieldsList-from_range 0 t.writes_n t.writes_n (cc) (omega arith)) (λ x b q k. search (rules, tests))
    ∙ some_numbered (λ (w : Write). w.row) write_of writes c.args.lists.now t.slot t.writes_n
    (λ r. taken_by (claim_of c.args.rows.now r) t.number)
