-- The eight places of the live transactions: which one a step goes to, and what a step needs to know of the others.
use Rattle.std.specs.Prelude.{ℕ, zero, suc, ◌+◌, Bool, true, false, cond, not, ◌&&◌, ◌||◌, List, [], ◌∷◌, eqb}
use Rattle.model.specs.Store.{rank, phase_prepared, phase_ended}
use Rattle.model.specs.Machine.{actor}
use Rattle.base_limits.specs.Limits.{most_live}
use Rattle.base_protocol.specs.declared.Step.{Step}
use Rattle.base_protocol.specs.declared.Step.TheVariants as ask
use Rattle.base_protocol.specs.View.{asked}
use Rattle.txn.specs.View.{phase_view}
use Rattle.txn.specs.Methods.{idle_of}
use Rattle.txn.specs.declared.Phase.{Phase}
use Rattle.txn.specs.declared.Transaction.{Transaction}

-- the number that a step names; 0, a free place's, for begin
abbrev pub wanted_of : Step → ℕ
wanted_of s = actor (asked s)

abbrev pub is_begin : Step → Bool
is_begin ask.Begin = true
is_begin (ask.Capture t k) = false
is_begin (ask.Collect t) = false
is_begin (ask.Rows t room) = false
is_begin (ask.Put t r k payload) = false
is_begin (ask.Erase t r) = false
is_begin (ask.Prepare t) = false
is_begin (ask.Install t) = false
is_begin (ask.End t) = false
is_begin (ask.Publish t) = false
is_begin (ask.Validate t) = false
is_begin (ask.Abort t) = false

-- the record that comes in is not the one that the step names
unfoldable pub misses_of : ℕ → Step → Bool
misses_of number s = not (is_begin s) && (eqb (wanted_of s) 0 || not (eqb number (wanted_of s)))

-- the first place with this number, counted from k; place 0 where there is none
unfoldable pub place_from : ℕ → List ℕ → ℕ → ℕ
place_from k [] n = 0
place_from k (x ∷ xs) n = cond (eqb x n) k (place_from (suc k) xs n)

abbrev pub place_in : List ℕ → ℕ → ℕ
place_in numbers n = place_from 0 numbers n

-- a place's number while it is active, by the number of its phase
abbrev pub active_by : ℕ → ℕ → ℕ
active_by n rank = cond (eqb rank phase_ended) 0 n

abbrev pub active_number : ℕ → Phase → ℕ
active_number n ph = active_by n (rank (phase_view ph))

-- the pending writes that a live Prepared transaction has reserved versions for
abbrev pub prepared_by : ℕ → ℕ → ℕ → ℕ
prepared_by n rank writes = cond (eqb n 0) 0 (cond (eqb rank phase_prepared) writes 0)

abbrev pub prepared_count : ℕ → Phase → ℕ → ℕ
prepared_count n ph writes = prepared_by n (rank (phase_view ph)) writes

-- how many places are not free
abbrev pub one_live : ℕ → ℕ → ℕ
one_live n x = cond (eqb x 0) n (n + 1)

unfoldable pub live_from : ℕ → List ℕ → ℕ
live_from n [] = n
live_from n (x ∷ xs) = live_from (one_live n x) xs

abbrev pub live_in : List ℕ → ℕ
live_in numbers = live_from 0 numbers

-- eight free places, each with its own slot
abbrev pub free_from : ℕ → ℕ → List Transaction
free_from k zero = []
free_from k (suc n) = idle_of k ∷ free_from (suc k) n

abbrev pub free_places : List Transaction
free_places = free_from 0 most_live
