-- Wrong bodies of the public steps (crate `toruxeng`): each contract is `call_of` of one step, so that a wrong body takes another step.
-- Assumes nothing.
use Prim.Native.Nat.{ℕ, suc, ◌+◌}
use mathlib.Core.Path.{◌≡◌, refl, ap}
use mathlib.Core.Bool.{true, false, true≢false}
use lib.Dec.{eqb}
use lib.ListN.{get_or}
use Rattle.model.specs.Store.{bucket_in}
use Rattle.model.specs.Refusals.{Full, NoSuch}
use Rattle.base_protocol.specs.View.{refusal_told}
use Rattle.base_protocol.specs.declared.Step.{Step}
use Rattle.base_protocol.specs.declared.Step.TheVariants as ask
use Rattle.base_protocol.specs.declared.Answer.TheVariants as tell
use Rattle.table.specs.Lists.{writes, place_of}
use Rattle.txn.specs.View.{phase_view}
use Rattle.txn.specs.declared.Phase.{Phase}
use Rattle.txn.specs.declared.Phase.TheVariants as phase
use Rattle.txn_places.specs.Places.{wanted_of, is_begin, misses_of}
use Rattle.step.specs.Steps.{Moved, stays}
use Rattle.step.specs.Words.{place_for, moved_by}
use Rattle.shape.specs.declared.Machine.{Machine}
use Rattle.call.specs.Calls.{Left, called_by, words_called, call_of}
use Rattle.tightness.specs.Wrong.{Excludes}
use Rattle.tightness.proofs.Apart.{apart, number_in}
use Rattle.tightness.proofs.Computes.{computes}
use Rattle.tightness.proofs.Small.{live, Lent, over, lent, machine, store, shape}

-- the step that each asks for, where the lent list of `rows` is empty
abbrev capture : ℕ × ℕ → Step
capture (n, k) = ask.Capture n k

abbrev rows : ℕ → Step
rows n = ask.Rows n 0

abbrev put : ℕ × ℕ × ℕ × ℕ → Step
put (n, r, k, payload) = ask.Put n r k payload

abbrev erase : ℕ × ℕ → Step
erase (n, r) = ask.Erase n r

abbrev collect : ℕ → Step
collect n = ask.Collect n

abbrev prepare : ℕ → Step
prepare n = ask.Prepare n

abbrev install : ℕ → Step
install n = ask.Install n

abbrev end : ℕ → Step
end n = ask.End n

abbrev publish : ℕ → Step
publish n = ask.Publish n

abbrev validate : ℕ → Step
validate n = ask.Validate n

abbrev abort : ℕ → Step
abort n = ask.Abort n

-- the one step taken for the other, in some store, for some numbers
abbrev Mistaken : {I : Type 0} → (I → Step) → (I → Step) → Type 0
Mistaken {I} right wrong = Excludes {A = Lent × Machine × I} (λ (l, m, i). call_of (over l m) (right i)) (λ (l, m, i). call_of (over l m) (wrong i))

-- the step is done: the shape of the small store is right
abbrev done : Phase → Step → Left
done ph s = record { answer = (called_by (store ph) s).stepped.answer; words = words_called (store ph) s }

call-done : (ph : Phase) → bucket_in (phase_view ph) ≡ 0 → (s : Step) → call_of (store ph) s ≡ done ph s
unfolding call_of
call-done ph e s = rw (shape ph e)

in-phase : {I : Type 0} (right wrong : I → Step) (ph : Phase) → bucket_in (phase_view ph) ≡ 0 → (number : Left → ℕ) (i : I)
    → eqb (number (done ph (right i))) (number (done ph (wrong i))) ≡ false → Mistaken right wrong
in-phase right wrong ph e number i d =
    apart (lent, machine ph, i) number (rw (call-done ph e (right i), call-done ph e (wrong i)) d)

abbrev code : Left → ℕ
code l = number_in l.answer

-- word i of its first pending write
abbrev written : ℕ → Left → ℕ
written i l = get_or l.words.tables.lists (place_of writes 0 0 + i) 0

-- ---- where a key, a row or a payload is given too

abbrev put_swapped : ℕ × ℕ × ℕ × ℕ → Step
put_swapped (n, r, k, payload) = ask.Put n r payload k

abbrev capture_swapped : ℕ × ℕ → Step
capture_swapped (n, k) = ask.Capture k n

abbrev erase_swapped : ℕ × ℕ → Step
erase_swapped (n, r) = ask.Erase r n

-- `toruxeng::put`: the payload goes where the key goes, and the key where the payload goes
pub put-key-for-payload : Mistaken put put_swapped
unfolding computes
put-key-for-payload = in-phase put put_swapped phase.Open refl (written 2) (1, 0, 1, 2) refl

-- `toruxeng::capture`: the key goes where the number goes, and the number where the key goes
pub capture-key-for-number : Mistaken capture capture_swapped
unfolding computes
capture-key-for-number = in-phase capture capture_swapped phase.Open refl code (1, 0) refl

-- `toruxeng::erase`: the row goes where the number goes, and the number where the row goes
pub erase-row-for-number : Mistaken erase erase_swapped
unfolding computes
erase-row-for-number = in-phase erase erase_swapped phase.Open refl code (1, 0) refl

-- ---- begin

-- what its contract asks for
abbrev begin : Lent × Machine → Left
begin (l, m) = call_of (over l m) ask.Begin

-- `toruxeng::begin`: the number is told, and nothing is kept
pub begin-not-kept : Excludes begin (λ (l, m). record { answer = tell.Number m.clock; words = over l m })
unfolding computes
begin-not-kept = apart (lent, machine phase.Open) (λ (l : Left). l.words.clock) (rw (call-done phase.Open refl ask.Begin))

-- `toruxeng::begin`: always no free place
pub begin-full : Excludes begin (λ (l, m). record { answer = tell.Refused (refusal_told Full); words = over l m })
unfolding computes
begin-full = apart (lent, machine phase.Open) code (rw (call-done phase.Open refl ask.Begin))

-- ---- the step of another number

-- an Ended transaction 1: its own step never gets 4, whatever else it says
own-step : (s : Step) → is_begin s ≡ false → wanted_of s ≡ 1 → eqb (code (done phase.Ended s)) 4 ≡ false
unfolding computes
own-step ask.Begin b e = absurd (true≢false b)
own-step (ask.Capture t k) b e = rw e
own-step (ask.Collect t) b e = rw e
own-step (ask.Rows t room) b e = rw e
own-step (ask.Put t r k payload) b e = rw e
own-step (ask.Erase t r) b e = rw e
own-step (ask.Prepare t) b e = rw e
own-step (ask.Install t) b e = rw e
own-step (ask.End t) b e = rw e
own-step (ask.Publish t) b e = rw e
own-step (ask.Validate t) b e = rw e
own-step (ask.Abort t) b e = rw e

-- the step of a number that nobody has gets 4
missed : (s : Step) → is_begin s ≡ false → wanted_of s ≡ 2 → misses_of 1 s ≡ true
unfolding computes
missed s b e = rw (b, e)

placed : (s : Step) → wanted_of s ≡ 2 → place_for (store phase.Ended).txns s ≡ 0
unfolding computes
placed s e = rw e

strange-step : (s : Step) → is_begin s ≡ false → wanted_of s ≡ 2
    → moved_by (store phase.Ended) s ≡ stays (record { answer = tell.Refused (refusal_told NoSuch); txn = live 1 phase.Ended; clock = 2; used = 0 })
    (store phase.Ended).tables
unfolding computes
strange-step s b e = rw (placed s e, missed s b e)

-- a function taken for itself with the next number
abbrev Renumbered : (ℕ → Step) → Type 0
Renumbered s = Mistaken s (λ n. s (suc n))

other-number : (s : ℕ → Step) → ((n : ℕ) → is_begin (s n) ≡ false) → ((n : ℕ) → wanted_of (s n) ≡ n) → Renumbered s
other-number s b e =
    let told : Moved → ℕ = λ m. number_in m.stepped.answer in
    in-phase s (λ n. s (suc n)) phase.Ended refl code 1 (rw (ap told (strange-step (s 2) (b 2) (e 2))) (own-step (s 1) (b 1) (e 1)))

-- `toruxeng::capture`: the next number
pub capture-other-number : (k : ℕ) → Renumbered (λ n. capture (n, k))
capture-other-number k = other-number (λ n. capture (n, k)) (λ n. refl) (λ n. refl)

-- `toruxeng::collect`: the next number
pub collect-other-number : Renumbered collect
collect-other-number = other-number collect (λ n. refl) (λ n. refl)

-- `toruxeng::rows`: the next number
pub rows-other-number : Renumbered rows
rows-other-number = other-number rows (λ n. refl) (λ n. refl)

-- `toruxeng::put`: the next number
pub put-other-number : (r k payload : ℕ) → Renumbered (λ n. put (n, r, k, payload))
put-other-number r k payload = other-number (λ n. put (n, r, k, payload)) (λ n. refl) (λ n. refl)

-- `toruxeng::erase`: the next number
pub erase-other-number : (r : ℕ) → Renumbered (λ n. erase (n, r))
erase-other-number r = other-number (λ n. erase (n, r)) (λ n. refl) (λ n. refl)

-- `toruxeng::validate`: the next number
pub validate-other-number : Renumbered validate
validate-other-number = other-number validate (λ n. refl) (λ n. refl)

-- `toruxeng::prepare`: the next number
pub prepare-other-number : Renumbered prepare
prepare-other-number = other-number prepare (λ n. refl) (λ n. refl)

-- `toruxeng::install`: the next number
pub install-other-number : Renumbered install
install-other-number = other-number install (λ n. refl) (λ n. refl)

-- `toruxeng::end`: the next number
pub end-other-number : Renumbered end
end-other-number = other-number end (λ n. refl) (λ n. refl)

-- `toruxeng::publish`: the next number
pub publish-other-number : Renumbered publish
publish-other-number = other-number publish (λ n. refl) (λ n. refl)

-- `toruxeng::abort`: the next number
pub abort-other-number : Renumbered abort
abort-other-number = other-number abort (λ n. refl) (λ n. refl)
