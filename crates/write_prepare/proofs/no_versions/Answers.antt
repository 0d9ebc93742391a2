-- No slot gets more than sixteen versions, so that the sum does not wrap.
use Rattle.std.proofs.Common.{arith}
use Rattle.base_limits.specs.Limits.{most_live}
use Rattle.txn_needs.proofs.Reserving.{reserved-few, versions-few}
use Rattle.write_prepare.proofs.no_versions.Goals as goal

pub overflow_add-others : goal.overflow_add-others
overflow_add-others c =
    let a = c.args in
    record {
      fits = omega (
        arith,
        c.reserved-others.ensures,
        c.count_versions-own.ensures,
        reserved-few a.rows.now a.versions.now a.lists.now a.prepared most_live,
        versions-few a.rows.now a.versions.now a.lists.now a.t.slot a.t.writes_n,
      );
    }
