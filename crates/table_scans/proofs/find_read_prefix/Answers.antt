-- `table_scans::find_read_prefix` meets its contract.
use Rattle.std.proofs.Common.{◌≡◌, ◌≢◌, rules}
use borrow.Author.Tests.{tests}
use Rattle.std.proofs.lemmas.Iterator.{first_from_Range}
use Rattle.table.specs.Lists.{reads, read_of, read_at}
use Rattle.table_scans.proofs.Searches.{fields-found}
use Rattle.table_scans.proofs.find_read_prefix.Goals as goal

pub returns : goal.returns
returns c =
    let a = c.args in
    rw (← c.min.ensures) (
    fields-found (λ r. r.bucket) read_of reads a.lists.now a.slot c.min.result a.bucket c.find.result
    (first_from_Range _ _ _ _ (λ i. (read_at a.lists.now a.slot i).bucket ≡ a.bucket) (λ i. (read_at a.lists.now a.slot i).bucket ≢ a.bucket) c.find.ensures.ran
    (λ x q k. search (rules, tests)) (λ x q k. search (rules, tests)))
    )
