-- A run to see the definitions at work: two transactions that end in another order than they began, a read of an own pending write, and one that is Installed
-- when the run stops. Assumes nothing.
use mathlib.Core.Path.{◌≡◌, refl}
use mathlib.Core.Option.{none, some}
use mathlib.Core.List.{List, [], ◌∷◌}
use Rattle.model.specs.Store.{Sizes, fresh}
use Rattle.model.specs.Contents.{live_row}
use Rattle.model.specs.Refusals.{Step, begin, capture, collect, rows, put, prepare, install, end, publish}
use Rattle.model.specs.Machine.{run}
use Rattle.model.proofs.Computes.{computes}
use Rattle.model_in_turn.specs.Done.{Entry, entries}
use Rattle.model_in_turn.specs.InTurn.{end_order, done_by, in_turn, one_by_one, steps_in}

abbrev pub sizes : Sizes
sizes = record { rows = 3; versions = 4; buckets = 4 }

-- 2 ends before 1, which then writes row 0 over it, and reads row 1 as it has just written it; 4 writes row 2 and does not end
abbrev pub steps : List Step
steps =
    begin ∷ begin ∷ put 2 0 5 7 ∷ prepare 2 ∷ install 2 ∷ end 2 ∷ publish 2
    ∷ put 1 0 5 1 ∷ put 1 1 6 3 ∷ capture 1 6 ∷ collect 1 ∷ rows 1 4 ∷ prepare 1 ∷ install 1 ∷ end 1
    ∷ begin ∷ put 4 2 3 8 ∷ prepare 4 ∷ install 4 ∷ []

pub order : end_order (entries (fresh sizes 1) steps) ≡ 2 ∷ 1 ∷ []
unfolding computes entries end_order
order = refl

-- in turn 2 has the number 1, and 1 the number 3; what was read stands beside its step
abbrev pub turn : List Entry
turn =
    record { who = 1; what = begin; read = [] }
    ∷ record { who = 1; what = put 1 0 5 7; read = [] }
    ∷ record { who = 1; what = prepare 1; read = [] }
    ∷ record { who = 1; what = install 1; read = [] }
    ∷ record { who = 1; what = end 1; read = [] }
    ∷ record { who = 1; what = publish 1; read = [] }
    ∷ record { who = 3; what = begin; read = [] }
    ∷ record { who = 3; what = put 3 0 5 1; read = [] }
    ∷ record { who = 3; what = put 3 1 6 3; read = [] }
    ∷ record { who = 3; what = capture 3 6; read = [] }
    ∷ record { who = 3; what = collect 3; read = [] }
    ∷ record { who = 3; what = rows 3 4; read = (1, some (6, 3)) ∷ [] }
    ∷ record { who = 3; what = prepare 3; read = [] }
    ∷ record { who = 3; what = install 3; read = [] }
    ∷ record { who = 3; what = end 3; read = [] }
    ∷ record { who = 3; what = publish 3; read = [] }
    ∷ []

pub turns : one_by_one 1 (entries (fresh sizes 1) steps) ≡ turn
unfolding computes entries end_order done_by in_turn
turns = refl

-- run again it is the same: every step is accepted, and the read returns the same
pub again : entries (fresh sizes 1) (steps_in turn) ≡ turn
unfolding computes entries
again = refl

-- row 0 is as the last to end left it, and row 2, whose head is there, is not live
pub live : (live_row (run (fresh sizes 1) steps) 0 ≡ some (5, 1)) × (live_row (run (fresh sizes 1) steps) 1 ≡ some (6, 3))
    × (live_row (run (fresh sizes 1) steps) 2 ≡ none) × ((run (fresh sizes 1) steps).chains.head 2 ≡ 4)
unfolding computes
live = (refl, refl, refl, refl)

pub live-again : (live_row (run (fresh sizes 1) (steps_in turn)) 0 ≡ some (5, 1)) × (live_row (run (fresh sizes 1) (steps_in turn)) 1 ≡ some (6, 3))
    × (live_row (run (fresh sizes 1) (steps_in turn)) 2 ≡ none)
unfolding computes
live-again = (refl, refl, refl)

-- the order matters: by their numbers row 0 would be left as 2 wrote it
pub by_number : live_row (run (fresh sizes 1) (steps_in (in_turn 1 (1 ∷ 2 ∷ []) (entries (fresh sizes 1) steps)))) 0 ≡ some (5, 7)
unfolding computes entries done_by in_turn
by_number = refl
