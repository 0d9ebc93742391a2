use Rattle.std.proofs.Common.{◌≡◌, ◌++◌}
use Rattle.table.specs.Lists.{candidates_of, writes_of}
use Rattle.table_scans.specs.Scans.{rows_written}
use Rattle.read_gather.specs.Gathering.{candidate_rows, Run, copied}
use Rattle.read_gather.proofs.gather.Given as goal

-- the candidates so far, and then all of them and the pending rows so far, are copied
abbrev pub invariant-loop-i : goal.invariant-loop-i
invariant-loop-i l = ◌≡◌ {A = Run} (record { n = l.n; words = l.out }) (copied l.initial.out 0 l.bound (candidates_of l.lists l.t.slot l.i))

abbrev pub invariant-loop-i-2 : goal.invariant-loop-i-2
invariant-loop-i-2 l =
    ◌≡◌ {A = Run} (record { n = l.n; words = l.out })
    (copied l.fn.out 0 l.bound (candidate_rows l.lists l.t.slot l.t.candidates_n ++ rows_written (writes_of l.lists l.t.slot l.i)))
