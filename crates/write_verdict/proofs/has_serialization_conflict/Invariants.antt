-- No record before this one has changed; and this one has where one of the active numbers that are left ended its version.
use Rattle.std.proofs.Common.{◌≡◌, ◌+◌, cond, Some, None, drop}
use Rattle.base_lists.specs.Lists.{member}
use Rattle.write_verdict.specs.Judged.{changed_record}
use Rattle.write_verdict.proofs.Laws.{records_from}
use Rattle.write_verdict.proofs.has_serialization_conflict.Given as goal

abbrev pub invariant-records : goal.invariant-records
invariant-records l = (l.changed ≡ None) × (changed_record l.versions l.lists l.fn.t ≡ records_from l.versions l.lists l.fn.t l.i)

abbrev pub invariant-loop-number : goal.invariant-loop-number
invariant-loop-number l = (l.changed ≡ None) × (changed_record l.versions l.lists l.fn.t
    ≡ cond (member l.ended (drop l.number-index l.number-items)) (Some l.i) (records_from l.versions l.lists l.fn.t (l.i + 1)))
