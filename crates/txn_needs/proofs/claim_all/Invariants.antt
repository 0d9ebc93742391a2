use Rattle.std.proofs.Common.{◌≡◌, drop}
use Rattle.table.specs.Fields.{set_claims}
use Rattle.txn_needs.specs.Needs.{written_by}
use Rattle.txn_needs.proofs.claim_all.Given as goal

abbrev pub invariant-loop-i : goal.invariant-loop-i
invariant-loop-i l = set_claims l.initial.rows l.t.number (written_by l.lists l.t) ≡ set_claims l.rows l.t.number (drop l.i (written_by l.lists l.t))
