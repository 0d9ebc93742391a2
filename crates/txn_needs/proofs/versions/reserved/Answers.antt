-- No slot reserves more than sixteen versions, so that no sum wraps; one slot more.
use Rattle.std.proofs.Common.{arith, refl}
use Rattle.txn_needs.specs.Versions.{reserved_in}
use Rattle.txn_needs.proofs.Reserving.{reserved-few, reserved-next, versions-few}
use Rattle.txn_needs.proofs.versions.reserved.Goals as goal

pub loop-slot-init : goal.loop-slot-init
unfolding reserved_in
loop-slot-init c = refl

pub overflow_add-sum : goal.overflow_add-sum
overflow_add-sum c =
    let a = c.args in
    record {
      fits = omega (
        arith,
        c.loop-slot.invariant,
        c.count_versions-sum.ensures,
        reserved-few a.rows.now a.versions.now a.lists.now a.prepared c.loop-slot.slot,
        versions-few a.rows.now a.versions.now a.lists.now c.loop-slot.slot,
      );
    }

pub loop-slot-preserved : goal.loop-slot-preserved
loop-slot-preserved c = reserved-next _ _ _ _ _ _ _ c.loop-slot.invariant c.count_versions-sum.ensures
