-- The buckets of the pending rows are listed behind those of the index reads.
use Rattle.txn_needs.proofs.Laws.{push-append}
use Rattle.write_prepare.proofs.push_needed.Goals as goal

pub returns-clause-listed : goal.returns-clause-listed
returns-clause-listed c = rw (push-append, c.push_writes.ensures.listed, c.push_reads.ensures.listed)
