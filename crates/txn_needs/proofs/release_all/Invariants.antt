use Rattle.std.proofs.Common.{◌≡◌, drop}
use Rattle.table.specs.Fields.{clear_holders}
use Rattle.txn_needs.proofs.release_all.Given as goal

abbrev pub invariant-loop-bucket : goal.invariant-loop-bucket
invariant-loop-bucket l = clear_holders l.initial.buckets l.number l.list ≡ clear_holders l.buckets l.number (drop l.bucket-index l.list)
