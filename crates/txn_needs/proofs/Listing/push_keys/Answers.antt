-- The buckets of the new key are listed behind those of the old one.
use Rattle.txn_needs.specs.Needs.{keys_need}
use Rattle.txn_needs.proofs.Laws.{push-append}
use Rattle.txn_needs.proofs.Listing.push_keys.Goals as goal

pub returns-clause-listed : goal.returns-clause-listed
unfolding keys_need
returns-clause-listed c = rw (push-append, c.push_key-2.ensures.listed, c.push_key.ensures.listed)
