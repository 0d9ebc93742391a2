-- What is promised of the public functions: of a call on any words, and of any sequence of calls after an accepted open, refused ones included.
use Rattle.std.specs.Prelude.{ℕ, ◌≤◌, ◌≡◌, true, false, ◌↔◌, ◌≢◌, ◌⊎◌, List, [], ◌++◌, length, drop}
use Rattle.base_limits.specs.Limits.{most_rows, most_versions, most_buckets, last_number}
use Rattle.base_lists.specs.Lists.{Among}
use Rattle.model.specs.Store.{Store, fresh}
use Rattle.model.specs.Verdict.{Verdict}
use Rattle.model.specs.Steps.{read_buckets}
use Rattle.model.specs.Refusals.{rows, validate, abort, txn_of}
use Rattle.model.specs.Machine.{answer_values, lent_after, at, actor, step, run}
use Rattle.model.specs.Causes.{Cause}
use Rattle.model.specs.Given.{◌and◌, Names, Ready, BucketsFree, Outside, GivenWhen, Given, documented}
use Rattle.model.specs.Leaves.{Leaves}
use Rattle.model.specs.Demands.{MarkedGives, FinishedRead}
use Rattle.base_protocol.specs.declared.Step.TheVariants as ask
use Rattle.base_protocol.specs.declared.Answer.TheVariants as tell
use Rattle.base_protocol.specs.declared.Verdict.TheVariants as verdict
use Rattle.base_protocol.specs.declared.Sizes.{Sizes}
use Rattle.base_protocol.specs.View.{verdict_told, sizes_view}
use Rattle.report_answers.specs.Answers.{number_of, values_of}
use Rattle.step.specs.Steps.{Tables}
use Rattle.step.specs.Words.{Words, view}
use Rattle.step.specs.Past.{PastKept}
use Rattle.shape.specs.Shape.{tables_lent, tables_fit, words_of}
use Rattle.call.specs.Calls.{closed_of, open_of}
use Rattle.call_promises.specs.Calls.{Call, asking, lending, called, calls, steps_of, Typed}
use Rattle.call_promises.specs.Refused.{Marks}

-- DEMAND 1

-- the number of a call: 16 where the words do not fit their sizes, and else by document 01's table on the store that they stand for
abbrev pub GivenTo : Words → Call → ℕ → Type 0
GivenTo w c n = GivenWhen 16 (tables_fit w ≡ false) n (Given (view w) (asking c) n)

-- a call on any words: its number, exactly when and in which order; its values; what it leaves of the store and of the lent list; and where it is refused every
-- word as found, but that a stale stamp marks
pub record ExactCall (w : Words) (c : Call) : Type 0 where
  pub given-when : (n : ℕ) → number_of (called w c).answer ≡ n ↔ GivenTo w c n
  pub done-values : number_of (called w c).answer ≡ 0
      → values_of (called w c).answer (called w c).words.tables.found ≡ answer_values (documented (view w) (asking c))
  pub done-leaves : number_of (called w c).answer ≡ 0 → Leaves (view w) (asking c) (view (called w c).words)
  pub done-lent : number_of (called w c).answer ≡ 0 → (called w c).words.tables.found ≡ lent_after (documented (view w) (asking c)) c.lent
  pub refused-values : number_of (called w c).answer ≢ 0 → values_of (called w c).answer (called w c).words.tables.found ≡ []
  pub refused-leaves : number_of (called w c).answer ≢ 0
      → ((called w c).words ≡ lending w c.lent) ⊎ Marks (lending w c.lent) c.asks (called w c).words (number_of (called w c).answer)

-- what is lent to open, in any state, and what it is asked for; a clock is a 64-bit number
pub record Opening : Type 0 where
  pub rows : List ℕ
  pub versions : List ℕ
  pub buckets : List ℕ
  pub lists : List ℕ
  pub sizes : Sizes
  pub clock : ℕ
  pub clock-in : clock ≤ last_number

abbrev pub opened : Opening → Words
opened o = (open_of o.rows o.versions o.buckets o.lists o.sizes o.clock).words

abbrev pub open_number : Opening → ℕ
open_number o = number_of (open_of o.rows o.versions o.buckets o.lists o.sizes o.clock).answer

-- open: 1, then 16 for a table shorter than its size; else a fresh store; refused, it leaves every lent table and a closed machine
pub record ExactOpen (o : Opening) : Type 0 where
  pub given-when : (n : ℕ) → open_number o ≡ n
      ↔ GivenWhen 1 (Outside o.sizes.rows most_rows ⊎ Outside o.sizes.versions most_versions ⊎ Outside o.sizes.buckets most_buckets ⊎ (o.clock ≡ 0)) n
      (GivenWhen 16 (tables_lent o.rows o.versions o.buckets o.lists o.sizes ≡ false) n (n ≡ 0))
  pub done-leaves : open_number o ≡ 0 → view (opened o) ≡ fresh (sizes_view o.sizes) o.clock
  pub refused-leaves : open_number o ≢ 0 → opened o ≡ words_of o.rows o.versions o.buckets o.lists [] closed_of

-- SEQUENCES OF CALLS

-- the words after an open and these calls, and the model's store after their steps
abbrev pub after : Opening → List Call → Words
after o cs = calls (opened o) cs

abbrev pub store_after : Opening → List Call → Store
store_after o cs = run (fresh (sizes_view o.sizes) o.clock) (steps_of cs)

-- after an accepted open and any calls the words fit, so what is said of a call on any words holds with no 16, and they stand for the model's run
pub record Follows (o : Opening) (cs : List Call) : Type 0 where
  pub typed : Typed (after o cs)
  pub fits : tables_fit (after o cs) ≡ true
  pub stands-for : view (after o cs) ≡ store_after o cs

-- WORDS PAST THE SIZES

-- a call keeps every word past what the sizes of its machine name
abbrev pub PastCall : Words → Call → Type 0
PastCall w c = PastKept w.sizes w.tables (called w c).words.tables

-- the tables as they were lent to open
abbrev pub lent_to : Opening → Tables
lent_to o = record { rows = o.rows; versions = o.versions; buckets = o.buckets; lists = o.lists; found = [] }

-- after an open and these calls, the sizes are those that were opened, and every word past them is as it was lent to open
pub record PastCalls (o : Opening) (cs : List Call) : Type 0 where
  pub sizes : (after o cs).sizes ≡ o.sizes
  pub past : PastKept o.sizes (lent_to o) (after o cs).tables

-- THE READ, THE VERDICT AND THE MARK

-- a read into a list, a validation, and a prepare
abbrev pub reading : ℕ → List ℕ → Call
reading t lent = record { asks = ask.Rows t (length lent); lent = lent }

abbrev pub validating : ℕ → Call
validating t = record { asks = ask.Validate t; lent = [] }

abbrev pub preparing : ℕ → Call
preparing t = record { asks = ask.Prepare t; lent = [] }

-- no more work in a marked transaction, after an accepted open and any calls: the number of each call that names it, and validate's verdict; its record stays
-- as it is, whatever calls come, until one aborts it
pub record MarkedCalls (o : Opening) (cs : List Call) (t : ℕ) : Type 0 where
  pub gives : (c : Call) → Names (asking c) → actor (asking c) ≡ t → MarkedGives (store_after o cs) (asking c) (number_of (called (after o cs) c).answer)
  pub judged : number_of (called (after o cs) (validating t)).answer ≡ 0 → (called (after o cs) (validating t)).answer ≡ tell.Judged verdict.Mark
  pub stays : (more : List Call) → (Among (abort t) (steps_of more) → ⊥)
      → (view (after o (cs ++ more))).txns (at (store_after o cs) t) ≡ txn_of (store_after o cs) t

-- DEMAND 2

-- a validation of any words answers v exactly when they fit, it is ready, no bucket of an index read is another's, and v has its cause, the first in document
-- 01's order
abbrev pub JudgedCall : Words → ℕ → Verdict → Type 0
JudgedCall w t v = (called w (validating t)).answer ≡ tell.Judged (verdict_told v)
    ↔ (tables_fit w ≡ true) and Ready (view w) (validate t) and BucketsFree (view w) t (read_buckets (txn_of (view w) t))
    and Cause (view w).chains (view w).index (txn_of (view w) t) v

-- a call of rows that answers n rows has handed them over at the front of its list, and they are a finished read
pub record ReadCall (o : Opening) (cs : List Call) (t : ℕ) (lent : List ℕ) (n : ℕ) : Type 0 where
  pub found : List ℕ
  pub count : n ≡ length found
  pub handed : (called (after o cs) (reading t lent)).words.tables.found ≡ found ++ drop n lent
  pub finished : FinishedRead (store_after o cs) (step (store_after o cs) (rows t (length lent))).store t found
