-- The first entry at which the test holds.
use Rattle.std.proofs.Common.{arith, rules, tests}
use Rattle.std.proofs.lemmas.Iterator.{YieldsList-from_range}
use Rattle.std.proofs.lemmas.Iterator.Search.{find_from_yields_List}
use Rattle.table.specs.Lists.{reads, read_of, read_at}
use Rattle.txn.specs.View.{read_view}
use Rattle.model.specs.Verdict.{bad_read}
use Rattle.write_verdict.specs.Judged.{stamps_view}
use Rattle.write_verdict.proofs.Laws.{found_where}
use Rattle.write_verdict.proofs.index_read_conflict.Goals as goal

pub returns : goal.returns
returns c =
    let t = c.args.t in
    found_where (bad_read (stamps_view c.args.buckets.now) t.number) read_view read_of reads c.args.lists.now t.slot t.reads_n c.find.result
    (find_from_yields_List (λ i. bad_read (stamps_view c.args.buckets.now) t.number (read_view (read_at c.args.lists.now t.slot i))) _ _ c.find.result
    c.find.ensures.ran (YieldsList-from_range 0 t.reads_n t.reads_n (cc) (omega arith)) (λ x b q k. search (rules, tests)))
