use Rattle.std.proofs.Common.{◌≡◌, ◌+◌, ◌≤◌, take, drop}
use Rattle.std.proofs.Math.Seq.{sets}
use Rattle.read_record.specs.Recording.{known_pointers, planned}
use Rattle.read_record.specs.Inner.{count_of}
use Rattle.read_record.proofs.plan.Given as goal

-- the plan stands in the pointers' place as far as the loop has come, and so far it is counted
abbrev pub invariant-loop-i : goal.invariant-loop-i
invariant-loop-i l = record {
  few : l.added ≤ l.i;
  left : l.through ≡ sets l.initial.through 0 (take l.i (planned (known_pointers l.lists l.slot l.records_n) l.initial.through));
  count :
      l.added + count_of (drop l.i (planned (known_pointers l.lists l.slot l.records_n) l.initial.through))
      ≡ count_of (planned (known_pointers l.lists l.slot l.records_n) l.initial.through);
}
