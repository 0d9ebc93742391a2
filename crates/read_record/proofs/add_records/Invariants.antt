use Rattle.std.proofs.Common.{◌≡◌, ◌+◌, drop}
use Rattle.read_record.specs.Recording.{records_for, put_records}
use Rattle.read_record.specs.Inner.{count_of}
use Rattle.read_record.proofs.add_records.Given as goal

-- what is left to store, and how many that is
abbrev pub invariant-loop-i : goal.invariant-loop-i
invariant-loop-i l = record {
  count : l.at + count_of (drop l.i l.through) ≡ l.from + count_of l.through;
  left :
      put_records l.initial.lists l.slot l.from (records_for l.versions l.matched l.through)
      ≡ put_records l.lists l.slot l.at (records_for l.versions (drop l.i l.matched) (drop l.i l.through));
}
