use Rattle.std.proofs.Common.{◌≡◌, ◌+◌, drop}
use Rattle.std.proofs.lemmas.List.Edits.{sets}
use Rattle.table.proofs.lists.SlotList.put.Given as goal

-- what is left of the entry takes the words now to where all of it takes the words at first
abbrev pub invariant-loop-k : goal.invariant-loop-k
invariant-loop-k l = sets l.lists (l.at + l.k) (drop l.k l.entry) ≡ sets l.fn.lists l.at l.entry
