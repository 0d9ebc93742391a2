-- As many are new as the plan leaves; where they fit they are stored.
use Rattle.std.proofs.Common.{sym, ◌+◌, ◌<◌, arith}
use Rattle.base_limits.specs.Limits.{most_records}
use Rattle.read_record.specs.Recording.{known_pointers, planned}
use Rattle.read_record.specs.Inner.{count_of}
use Rattle.read_record.proofs.Laws.{count-few, planned-length, too-many, kept}
use Rattle.read_record.proofs.record_versions.Goals as goal

pub overflow_add-after : goal.overflow_add-after
overflow_add-after c =
    let a = c.args in
    let known = known_pointers a.lists.now a.slot a.records_n in
    omega (
      arith,
      c.well_formed,
      c.ranges.records_n,
      c.plan-added.ensures.added,
      count-few (planned known a.through.now),
      planned-length known a.through.now,
    )

pub returns-then-after : goal.returns-then-after
returns-then-after c =
    let a = c.args in
    let many : most_records < a.records_n + count_of (planned (known_pointers a.lists.now a.slot a.records_n) a.through.now) =
    omega (arith, c.plan-added.ensures.added, c.if-after.true) in
    rw c.plan-added.ensures.left (sym (too-many a.versions.now a.lists.now a.slot a.records_n a.matched.now a.through.now many))

pub add_records-requires : goal.add_records-requires
add_records-requires c = rw c.plan-added.ensures.left (omega (arith, c.plan-added.ensures.added))

pub returns : goal.returns
returns c =
    let a = c.args in
    kept a.versions.now a.lists.now a.slot a.records_n a.matched.now a.through.now c.plan-added.result _ _
    c.plan-added.ensures.added c.plan-added.ensures.left c.add_records.ensures (omega arith)
