-- The machine: open, one step with its answer, any sequence of steps.
use Rattle.std.specs.Prelude.{ℕ, Bool, true, false, cond, ◌&&◌, List, [], ◌∷◌, ◌++◌, eqb, ltb, leb, length, drop}
use Rattle.std.proofs.Math.Option.{Option, none, some}
use Rattle.model.specs.Store.{Sizes, Txn, Store, Ended, phase_open, phase_holding, phase_collected, phase_prepared, phase_installed, phase_ended, rank, key_in}
use Rattle.model.specs.Store.{bucket_of}
use Rattle.model.specs.Verdict.{Verdict, verdict, verdict_number, verdict_values}
use Rattle.model.specs.Steps.{begun, stale, captured, collected, posted_rows, found_rows, read_done, written, prepared, installed, becomes, published, ended}
use Rattle.model.specs.Contents.{pending_write}
use Rattle.model.specs.Refusals.{Refusal, WrongSize, NoNumbers, Full, NoSuch, WrongPhase, NoRow, Taken, Stale, Marked, ManyReads, NoRoom, ManyRecords}
use Rattle.model.specs.Refusals.{ManyWrites, NoVersions, Conflict, Malformed, WrongShape, refusal_number, Step, begin, capture, collect, rows, write}
use Rattle.model.specs.Refusals.{prepare, install, end, publish, validate, abort, place_of, txn_of, found, begin_checks, capture_checks, rows_checks}
use Rattle.model.specs.Refusals.{write_checks, prepare_checks, validate_checks, refusal}
use Rattle.model.specs.Shape.{good_sizes, right_shape}

-- what a step answers
pub data Answer : Type 0 where
  Done : Answer
  Number : ℕ → Answer
  Stamp : ℕ → Answer
  Count : ℕ → Answer
  Rows : List ℕ → Answer
  Judged : Verdict → Answer
  Refused : Refusal → Answer

-- document 01's number for each answer, and the values that come after 0
abbrev pub answer_number : Answer → ℕ
answer_number Done = 0
answer_number (Number n) = 0
answer_number (Stamp n) = 0
answer_number (Count n) = 0
answer_number (Rows rs) = 0
answer_number (Judged v) = 0
answer_number (Refused r) = refusal_number r

abbrev pub answer_values : Answer → List ℕ
answer_values Done = []
answer_values (Number n) = n ∷ []
answer_values (Stamp n) = n ∷ []
answer_values (Count n) = n ∷ []
answer_values (Rows rs) = length rs ∷ rs
answer_values (Judged v) = verdict_number v ∷ verdict_values v
answer_values (Refused r) = []

-- the lent row list after an answer: found rows go to its front, and the rest is untouched
abbrev pub lent_after : Answer → List ℕ → List ℕ
lent_after Done lent = lent
lent_after (Number n) lent = lent
lent_after (Stamp n) lent = lent
lent_after (Count n) lent = lent
lent_after (Rows rs) lent = rs ++ drop (length rs) lent
lent_after (Judged v) lent = lent
lent_after (Refused r) lent = lent

-- the store after a step, and the answer
pub record Stepped : Type 0 where
  pub store : Store
  pub answer : Answer

abbrev pub gives : Store → Answer → Stepped
gives s a = record { store = s; answer = a }

-- where a transaction stands
abbrev pub at : Store → ℕ → ℕ
at s t = place_of s.txns t

-- a step's rule: whose it is, the phases in which it is right by their numbers, its tests after 4 and 5 in order, what it leaves and what it answers
pub record Rule : Type 0 where
  pub whose : Option ℕ
  pub right : ℕ → Bool
  pub tests : Store → Txn → List (Bool × Refusal)
  pub leaves : Store → ℕ → Store
  pub answers : Store → Txn → Answer

-- the rule of a step that names transaction t
abbrev pub of_txn : ℕ → (ℕ → Bool) → (Store → Txn → List (Bool × Refusal)) → (Store → ℕ → Store) → (Store → Txn → Answer) → Rule
of_txn t right tests leaves answers = record { whose = some t; right = right; tests = tests; leaves = leaves; answers = answers }

-- right in one phase; no tests after 4 and 5; no values after 0
abbrev pub only : ℕ → ℕ → Bool
only phase n = eqb n phase

abbrev pub no_tests : Store → Txn → List (Bool × Refusal)
no_tests s x = []

abbrev pub done : Store → Txn → Answer
done s x = Done

-- THE TABLE OF THE STEPS: all that is said of a step, once
abbrev pub rule : Step → Rule
rule begin = record { whose = none; right = λ n. true; tests = λ s x. begin_checks s; leaves = begun; answers = λ s x. Number s.clock }
rule (capture t k) = of_txn t (only phase_open) (λ s x. capture_checks s x k) (λ s i. captured s i k) (λ s x. Stamp (s.index.stamp (bucket_of s.sizes k)))
rule (collect t) = of_txn t (only phase_holding) no_tests collected (λ s x. Count (length (posted_rows s (key_in x.phase))))
rule (rows t room) = of_txn t (only phase_collected) (λ s x. rows_checks s x room) read_done (λ s x. Rows (found_rows s x))
rule (write t r c) = of_txn t (only phase_open) (λ s x. write_checks s x r) (λ s i. written s i (pending_write r c)) done
rule (prepare t) = of_txn t (only phase_open) prepare_checks prepared done
rule (install t) = of_txn t (only phase_prepared) no_tests installed done
rule (end t) = of_txn t (only phase_installed) no_tests (λ s i. becomes s i Ended) done
rule (publish t) = of_txn t (only phase_ended) no_tests published (λ s x. Stamp s.clock)
rule (validate t) = of_txn t (only phase_open) validate_checks (λ s i. s) (λ s x. Judged (verdict s.chains s.index x))
rule (abort t) = of_txn t (λ n. ltb n phase_installed) no_tests ended done

-- the number that a step names, or else this one
abbrev pub named_or : ℕ → Option ℕ → ℕ
named_or n none = n
named_or n (some t) = t

-- who acts: the number that a step names, 0 where it names none
abbrev pub actor : Step → ℕ
actor a = named_or 0 (rule a).whose

-- 4 and 5 come before a step's own tests where it names a transaction
abbrev pub found_first : Store → Option ℕ → Bool → List (Bool × Refusal) → List (Bool × Refusal)
found_first s none phase more = more
found_first s (some t) phase more = found s t phase more

-- all tests of a step in their order, each with the refusal that it gives
unfoldable pub checks : Store → Step → List (Bool × Refusal)
checks s a = found_first s (rule a).whose ((rule a).right (rank (txn_of s (actor a)).phase)) ((rule a).tests s (txn_of s (actor a)))

-- what a step does that no test refuses
unfoldable pub accepted : Store → Step → Stepped
accepted s a = gives ((rule a).leaves s (at s (actor a))) ((rule a).answers s (txn_of s (actor a)))

-- the refusal that marks
abbrev pub is_stale : Refusal → Bool
is_stale WrongSize = false
is_stale NoNumbers = false
is_stale Full = false
is_stale NoSuch = false
is_stale WrongPhase = false
is_stale NoRow = false
is_stale Taken = false
is_stale Stale = true
is_stale Marked = false
is_stale ManyReads = false
is_stale NoRoom = false
is_stale ManyRecords = false
is_stale ManyWrites = false
is_stale NoVersions = false
is_stale Conflict = false
is_stale Malformed = false
is_stale WrongShape = false

-- a refusal changes nothing, but a stale stamp marks its transaction
unfoldable pub after_refusal : Store → Step → Refusal → Store
after_refusal s a r = cond (is_stale r) (stale s (at s (actor a))) s

unfoldable pub carried : Store → Step → Option Refusal → Stepped
carried s a none = accepted s a
carried s a (some r) = gives (after_refusal s a r) (Refused r)

-- a step without the shape test, and the public step, which tests it first
unfoldable pub step_in : Store → Step → Stepped
step_in s a = carried s a (refusal (checks s a))

unfoldable pub step : Store → Step → Stepped
step s a = cond (right_shape s) (step_in s a) (gives s (Refused WrongShape))

-- any sequence of steps
unfoldable pub run : Store → List Step → Store
run s [] = s
run s (a ∷ more) = run (step s a).store more

-- open: a size outside its range, or clock 0, is refused with 1
unfoldable pub can_open : Sizes → ℕ → Bool
can_open z clock = good_sizes z && leb 1 clock
