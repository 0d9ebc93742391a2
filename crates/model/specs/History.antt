-- The history of a run, as upstream keeps it: each accepted publish adds an event for each pending row that got a version, ascending; the newest stands first.
use Rattle.std.specs.Prelude.{ℕ, cond, List, [], ◌∷◌, eqb}
use Rattle.model.specs.Store.{Txn, Store, same_key}
use Rattle.model.specs.Steps.{made_rows, key_before, new_key}
use Rattle.model.specs.Upstream.{Event}
use Rattle.model.specs.Refusals.{Step, begin, capture, collect, rows, write, prepare, install, end, publish, validate, abort, txn_of}
use Rattle.model.specs.Machine.{answer_number, step}

-- a row's key before and its new key, by the transaction's number, stamped with the clock
abbrev pub event_of : Store → Txn → ℕ → Event
event_of s x r = record { row = r; before = key_before s.chains r; after = new_key x r; creator = x.number; stamp = s.clock }

unfoldable pub add_events : Store → Txn → List ℕ → List Event → List Event
add_events s x [] older = older
add_events s x (r ∷ rs) older = add_events s x rs (event_of s x r ∷ older)

-- what a step adds: an accepted publish, and nothing else
unfoldable pub step_events : Store → Step → List Event → List Event
step_events s begin older = older
step_events s (capture t k) older = older
step_events s (collect t) older = older
step_events s (rows t room) older = older
step_events s (write t r c) older = older
step_events s (prepare t) older = older
step_events s (install t) older = older
step_events s (end t) older = older
step_events s (publish t) older =
    cond (eqb (answer_number (step s (publish t)).answer) 0)
    (add_events s (txn_of s t) (made_rows s.sizes s.chains (txn_of s t).number (txn_of s t).writes) older) older
step_events s (validate t) older = older
step_events s (abort t) older = older

-- the events of a run, over those that were there
unfoldable pub history_over : List Event → Store → List Step → List Event
history_over older s [] = older
history_over older s (a ∷ more) = history_over (step_events s a older) (step s a).store more

abbrev pub history : Store → List Step → List Event
history s steps = history_over [] s steps

-- events whose key changes: document 01 stamps only these
unfoldable pub changing : List Event → List Event
changing [] = []
changing (e ∷ older) = cond (same_key e.before e.after) (changing older) (e ∷ changing older)
