-- One after another: the transactions of a run that reached end, each run whole with its publish, in the order of their end steps; and what is then the same.
use Rattle.std.specs.Prelude.{ℕ, ◌+◌, ◌<◌, ◌≡◌, Bool, true, false, cond, not, ◌&&◌, List, [], ◌∷◌, ◌++◌, map, eqb}
use Rattle.model.specs.Store.{Sizes, Store, fresh}
use Rattle.model.specs.Contents.{live_row}
use Rattle.model.specs.Refusals.{Step, begin, capture, collect, rows, write, prepare, install, end, publish, validate, abort}
use Rattle.model.specs.Machine.{run}
use Rattle.model_in_turn.specs.Done.{Entry, entries}

-- the transaction that an end step ends
abbrev pub end_in : Step → List ℕ
end_in begin = []
end_in (capture t k) = []
end_in (collect t) = []
end_in (rows t room) = []
end_in (write t r c) = []
end_in (prepare t) = []
end_in (install t) = []
end_in (end t) = t ∷ []
end_in (publish t) = []
end_in (validate t) = []
end_in (abort t) = []

-- the transactions that reached end, in the order of their end steps
unfoldable pub end_order : List Entry → List ℕ
end_order [] = []
end_order (e ∷ es) = end_in e.what ++ end_order es

-- publish is run for each of them, whether the run came to it or not
abbrev pub is_publish : Step → Bool
is_publish begin = false
is_publish (capture t k) = false
is_publish (collect t) = false
is_publish (rows t room) = false
is_publish (write t r c) = false
is_publish (prepare t) = false
is_publish (install t) = false
is_publish (end t) = false
is_publish (publish t) = true
is_publish (validate t) = false
is_publish (abort t) = false

-- the accepted steps of transaction n, but its publish
unfoldable pub done_by : ℕ → List Entry → List Entry
done_by n [] = []
done_by n (e ∷ es) = cond (eqb e.who n && not (is_publish e.what)) (e ∷ done_by n es) (done_by n es)

-- the same step of another number
abbrev pub renumbered : ℕ → Step → Step
renumbered m begin = begin
renumbered m (capture t k) = capture m k
renumbered m (collect t) = collect m
renumbered m (rows t room) = rows m room
renumbered m (write t r c) = write m r c
renumbered m (prepare t) = prepare m
renumbered m (install t) = install m
renumbered m (end t) = end m
renumbered m (publish t) = publish m
renumbered m (validate t) = validate m
renumbered m (abort t) = abort m

-- the same entry of another number: what it read stays
abbrev pub as_number : ℕ → Entry → Entry
as_number m e = record { who = m; what = renumbered m e.what; read = e.read }

-- transaction n whole, as number m: all that it did, and its publish
abbrev pub whole_of : ℕ → ℕ → List Entry → List Entry
whole_of m n es = map (as_number m) (done_by n es) ++ (record { who = m; what = publish m; read = [] } ∷ [])

-- transactions one after another, in the order of a list: each takes two numbers of the clock, its own and its stamp
unfoldable pub in_turn : ℕ → List ℕ → List Entry → List Entry
in_turn clock [] es = []
in_turn clock (n ∷ ns) es = whole_of clock n es ++ in_turn (2 + clock) ns es

-- those that reached end, one after another
abbrev pub one_by_one : ℕ → List Entry → List Entry
one_by_one clock es = in_turn clock (end_order es) es

-- the steps of entries
abbrev pub steps_in : List Entry → List Step
steps_in es = map (λ (e : Entry). e.what) es

-- the turn of a run: the steps of those that reached end
abbrev pub turn_of : Store → List Step → List Step
turn_of s steps = steps_in (one_by_one s.clock (entries s steps))

-- Were the payments as if made in turn? From a fresh store with the same sizes and clock every step of the turn is accepted and every read returns the same
-- rows with the same keys and payloads;
-- then none is live, and the live rows are those of the run, once any of its transactions that reached end have published. Numbers, stamps and pointers may
-- differ, and so may what begin, capture, collect, validate and publish answer.
pub record RunInTurn (z : Sizes) (clock : ℕ) (steps : List Step) : Type 0 where
  pub same_reads : entries (fresh z clock) (turn_of (fresh z clock) steps) ≡ one_by_one clock (entries (fresh z clock) steps)
  pub none-live : (i : ℕ) → ((run (fresh z clock) (turn_of (fresh z clock) steps)).txns i).number ≡ 0
  pub same_rows : (published : List ℕ) (r : ℕ) → r < z.rows
      → live_row (run (fresh z clock) (turn_of (fresh z clock) steps)) r ≡ live_row (run (fresh z clock) (steps ++ map publish published)) r
