-- Calls in turn: the transactions that reached end, each called whole with its publish, in the order of their calls of end; and what is then the same.
use Rattle.std.specs.Prelude.{ℕ, ◌<◌, ◌≡◌, cond, List, [], ◌∷◌, ◌++◌, map, eqb, take, replicate}
use Rattle.std.proofs.Math.Option.{none, some}
use Rattle.base_limits.specs.Limits.{most_live}
use Rattle.model.specs.Contents.{shown_to, live_row}
use Rattle.model.specs.Refusals.{Step as Asked, begin, capture, collect, rows, write, prepare, install, end, publish, validate, abort, txn_of}
use Rattle.model.specs.Machine.{actor}
use Rattle.model_in_turn.specs.Done.{Entry, whose}
use Rattle.model_in_turn.specs.InTurn.{one_by_one, steps_in}
use Rattle.base_protocol.specs.declared.Step.{Step}
use Rattle.base_protocol.specs.declared.Step.TheVariants as ask
use Rattle.base_protocol.specs.declared.Answer.{Answer}
use Rattle.base_protocol.specs.declared.Answer.TheVariants as tell
use Rattle.report_answers.specs.Answers.{number_of}
use Rattle.step.specs.Words.{Words, view, txn_at}
use Rattle.call.specs.Calls.{Left}
use Rattle.call_promises.specs.Calls.{Call, asking, called}
use Rattle.call_promises.specs.Demands.{Opening, opened, after}

-- a call that lends no list
abbrev pub bare : Step → Call
bare s = record { asks = s; lent = [] }

-- the call that asks for a step: a call of rows lends as long a list as the room that it asks for
abbrev pub call_for : Asked → Call
call_for begin = bare ask.Begin
call_for (capture t k) = bare (ask.Capture t k)
call_for (collect t) = bare (ask.Collect t)
call_for (rows t room) = record { asks = ask.Rows t room; lent = replicate room 0 }
call_for (write t r (some c)) = bare (ask.Put t r c.0 c.1)
call_for (write t r none) = bare (ask.Erase t r)
call_for (prepare t) = bare (ask.Prepare t)
call_for (install t) = bare (ask.Install t)
call_for (end t) = bare (ask.End t)
call_for (publish t) = bare (ask.Publish t)
call_for (validate t) = bare (ask.Validate t)
call_for (abort t) = bare (ask.Abort t)

-- the rows that an answer says are handed over: so many, from the front of the list
abbrev pub front : Answer → List ℕ → List ℕ
front tell.Done found = []
front (tell.Number n) found = []
front (tell.Stamp n) found = []
front (tell.Count n) found = []
front (tell.Rows n) found = take n found
front (tell.Judged v) found = []
front (tell.Refused n) found = []

-- the rows that a call handed over
abbrev pub handed : Left → List ℕ
handed l = front l.answer l.words.tables.found

-- an accepted call: whose it is, its step, and each row that it handed over with what the words show of it to the transaction
abbrev pub told_entry : Words → Call → Entry
told_entry w c = record {
  who = whose (view w) (asking c);
  what = asking c;
  read = map (λ r. (r, shown_to (view w).chains (txn_of (view w) (actor (asking c))) r)) (handed (called w c));
}

-- the accepted calls, in their order, the tables handed on as the last call left them
unfoldable pub calls_done : Words → List Call → List Entry
calls_done w [] = []
calls_done w (c ∷ cs) = cond (eqb (number_of (called w c).answer) 0) (told_entry w c ∷ calls_done (called w c).words cs) (calls_done (called w c).words cs)

-- the transactions that reached end, one after another in the order of their calls of end
abbrev pub calls_one_by_one : Opening → List Call → List Entry
calls_one_by_one o cs = one_by_one o.clock (calls_done (opened o) cs)

-- the calls of the turn
abbrev pub turn_calls : Opening → List Call → List Call
turn_calls o cs = map call_for (steps_in (calls_one_by_one o cs))

-- a call of publish for each of these transactions
abbrev pub publishing : List ℕ → List Call
publishing ts = map (λ t. bare (ask.Publish t)) ts

-- Were the payments as if made in turn? After the same open every call of the turn is accepted, and every call of rows hands over the same rows with the same
-- keys and payloads;
-- then none is live, and the live rows are those after the calls, once any transactions that reached end have published. Numbers, stamps and pointers may
-- differ, and so may what begin, capture, collect, validate and publish answer.
pub record CallsInTurn (o : Opening) (cs : List Call) : Type 0 where
  pub same_reads : calls_done (opened o) (turn_calls o cs) ≡ calls_one_by_one o cs
  pub none-live : (i : ℕ) → i < most_live → (txn_at (after o (turn_calls o cs)) i).number ≡ 0
  pub same_rows : (published : List ℕ) (r : ℕ) → r < o.sizes.rows
      → live_row (view (after o (turn_calls o cs))) r ≡ live_row (view (after o (cs ++ publishing published))) r
