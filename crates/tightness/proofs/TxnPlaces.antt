-- Wrong bodies of the crate `txn_places`.
-- Assumes nothing.
use Prim.Native.Nat.{ℕ, suc, ◌-◌}
use mathlib.Core.Path.{refl}
use mathlib.Core.Bool.{Bool, cond, not, ◌&&◌, ◌||◌}
use mathlib.Core.List.{List, [], ◌∷◌, map}
use lib.Dec.{eqb}
use lib.ListN.{length, take, get_or, set, replicate}
use Rattle.base_limits.specs.Limits.{most_live}
use Rattle.base_lists.specs.Lists.{first}
use Rattle.model.specs.Store.{phase_open, phase_prepared, phase_installed, phase_ended}
use Rattle.base_protocol.specs.declared.Step.{Step}
use Rattle.base_protocol.specs.declared.Step.TheVariants as ask
use Rattle.txn.specs.Methods.{idle_of}
use Rattle.txn.specs.declared.Transaction.{Transaction}
use Rattle.txn_places.specs.Places.{free_places, wanted_of, is_begin, misses_of, place_from, place_in, active_by, prepared_by, live_in}
use Rattle.tightness.specs.Wrong.{Excludes}
use Rattle.tightness.proofs.Apart.{apart, itself, bit}
use Rattle.tightness.proofs.Computes.{computes}

-- `wanted`: nobody, whatever the step
pub wanted-nobody : Excludes (λ (s : Step). wanted_of s) (λ s. 0)
wanted-nobody = apart (ask.Collect 1) itself refl

-- `wanted`: begin names transaction 1
pub wanted-begin-one : Excludes (λ (s : Step). wanted_of s) (λ s. cond (is_begin s) 1 (wanted_of s))
wanted-begin-one = apart ask.Begin itself refl

-- eight places, of which the first has number 1
abbrev first_is_one : List ℕ
first_is_one = set (replicate most_live 0) 0 1

-- `place_of`: the places are counted from 1
pub place-of-from-one : Excludes {A = List ℕ × ℕ} (λ (numbers, n). place_in numbers n) (λ (numbers, n). place_from 1 numbers n)
unfolding computes
place-of-from-one = apart (first_is_one, 1) itself refl

-- `place_of`: 8, of eight places, where none has the number
pub place-of-past-the-end : Excludes {A = List ℕ × ℕ} (λ (numbers, n). place_in numbers n)
    (λ (numbers, n). first (λ i. eqb (get_or numbers i 0) n) 0 (length numbers))
unfolding computes
place-of-past-the-end = apart (first_is_one, 2) itself refl

-- `place_of`: the last place is not looked at
pub place-of-last-missed : Excludes {A = List ℕ × ℕ} (λ (numbers, n). place_in numbers n) (λ (numbers, n). place_in (take (length numbers - 1) numbers) n)
unfolding computes
place-of-last-missed = apart (0 ∷ 1 ∷ [], 1) itself refl

-- `active_number`: an Ended transaction is active
pub active-number-ended : Excludes {A = ℕ × ℕ} (λ (n, rank). active_by n rank) (λ (n, rank). n)
active-number-ended = apart (1, phase_ended) itself refl

-- `active_number`: an Installed transaction is not active
pub active-number-installed : Excludes {A = ℕ × ℕ} (λ (n, rank). active_by n rank) (λ (n, rank). cond (eqb rank phase_installed) 0 n)
active-number-installed = apart (1, phase_installed) itself refl

-- `prepared_count`: an Open transaction has reserved versions
pub prepared-count-open : Excludes {A = ℕ × ℕ × ℕ} (λ (n, rank, writes). prepared_by n rank writes) (λ (n, rank, writes). cond (eqb n 0) 0 writes)
prepared-count-open = apart (1, phase_open, 1) itself refl

-- `prepared_count`: a free place has reserved versions
pub prepared-count-free : Excludes {A = ℕ × ℕ × ℕ} (λ (n, rank, writes). prepared_by n rank writes)
    (λ (n, rank, writes). cond (eqb rank phase_prepared) writes 0)
prepared-count-free = apart (0, phase_prepared, 1) itself refl

-- `live_count`: every place counts
pub live-count-every : Excludes live_in length
unfolding computes
live-count-every = apart (replicate most_live 0) itself refl

-- `live_count`: the number of the first place
pub live-count-first-number : Excludes live_in (λ numbers. get_or numbers 0 0)
unfolding computes
live-count-first-number = apart (set (replicate most_live 0) 0 2) itself refl

-- what the contract of `misses` asks for
abbrev misses : ℕ × Step → Bool
misses (n, s) = misses_of n s

-- `misses`: begin, which names nobody, misses too
pub misses-begin : Excludes misses (λ (n, s). eqb (wanted_of s) 0 || not (eqb n (wanted_of s)))
unfolding computes
misses-begin = apart (1, ask.Begin) bit refl

-- `misses`: the step of number 0 finds a free place
pub misses-zero : Excludes misses (λ (n, s). not (is_begin s) && not (eqb n (wanted_of s)))
unfolding computes
misses-zero = apart (0, ask.End 0) bit refl

-- the slot of the record at place 1
abbrev slot_of_second : List Transaction → ℕ
slot_of_second ts = (get_or ts 1 (idle_of 0)).slot

-- `free_places`: every place has slot 0
pub free-places-one-slot : Excludes (λ (u : Unit {0}). free_places) (λ u. replicate most_live (idle_of 0))
free-places-one-slot = apart tt slot_of_second refl

-- `free_places`: the slots are counted from 1
pub free-places-from-one : Excludes (λ (u : Unit {0}). free_places) (λ u. map (λ (t : Transaction). idle_of (suc t.slot)) free_places)
free-places-from-one = apart tt slot_of_second refl
