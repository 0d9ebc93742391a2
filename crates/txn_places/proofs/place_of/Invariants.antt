use Rattle.std.proofs.Common.{◌≡◌, drop}
use Rattle.txn_places.specs.Places.{place_from}
use Rattle.txn_places.proofs.place_of.Given as goal

abbrev pub invariant-loop-i : goal.invariant-loop-i
invariant-loop-i l = l.place ≡ place_from l.i (drop l.i l.numbers) l.number
