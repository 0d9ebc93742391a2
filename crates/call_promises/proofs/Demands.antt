-- The page of statements: demands 1 to 3, words past the sizes and request (xiii), of the public functions. Assumes nothing.
-- All that a statement says is defined in specs/; each proof is one line. Calls that meet the premises stand in Runs.
use Prim.Native.Nat.{ℕ}
use mathlib.Core.Path.{◌≡◌}
use mathlib.Core.Bool.{true}
use mathlib.Core.List.{List, [], ◌∷◌, ◌++◌}
use Rattle.model.specs.Store.{Collected}
use Rattle.model.specs.Verdict.{Verdict}
use Rattle.model.specs.Refusals.{validate, txn_of}
use Rattle.model.specs.Machine.{step}
use Rattle.model.specs.Given.{Lives}
use Rattle.model.specs.Holding.{Writes, ErasesNothing}
use Rattle.model.specs.Demands.{HeadKept, CostsNothing, MarkedOpen, LeastXmins, StandingRead}
use Rattle.base_protocol.specs.declared.Answer.TheVariants as tell
use Rattle.base_protocol.specs.declared.Verdict.TheVariants as verdict
use Rattle.base_protocol.specs.View.{sizes_view}
use Rattle.report_answers.specs.Answers.{number_of}
use Rattle.step.specs.Words.{Words, view}
use Rattle.call_promises.specs.Calls.{Call, called, Typed, AnyCall}
use Rattle.call_promises.specs.Demands.{ExactCall, Opening, open_number, ExactOpen, after, store_after, Follows, reading, validating, preparing}
use Rattle.call_promises.specs.Demands.{PastCall, PastCalls, MarkedCalls, JudgedCall, ReadCall}
use Rattle.call_promises.specs.InTurn.{CallsInTurn}
use Rattle.call_promises.proofs.Calls.{any-call}
use Rattle.call_promises.proofs.Answered.{exactly, judges, opens-exactly}
use Rattle.call_promises.proofs.Sequences.{follows, least-xmins, heads, costless, marked-open, stops, reads, stands}
use Rattle.call_promises.proofs.Past.{calls-kept, past-calls}
use Rattle.call_promises.proofs.InTurn.{turns}

-- DEMAND 1, of a call on any words that the code's types allow: its number exactly when, in order; its values; what it leaves. And of open.
pub exact-call : (w : Words) (c : Call) → Typed w → ExactCall w c
exact-call = exactly

pub exact-open : (o : Opening) → ExactOpen o
exact-open = opens-exactly

-- It is the model's public step, shape test and all.
pub called-any : (w : Words) (c : Call) → Typed w → AnyCall w c
called-any = any-call

-- DEMAND 2, the verdict, of a validation on any words.
pub judged-call : (w : Words) (t : ℕ) (v : Verdict) → Typed w → JudgedCall w t v
judged-call = judges

-- After an accepted open and any calls the words fit and stand for the model's run of their steps.
pub calls-follow : (o : Opening) → open_number o ≡ 0 → (cs : List Call) → Follows o cs
calls-follow = follows

-- A live transaction sees every number below its xmin, which is the least of its active numbers and its own.
pub calls-xmin : (o : Opening) → open_number o ≡ 0 → (cs : List Call) → LeastXmins (view (after o cs))
calls-xmin = least-xmins

-- The claim keeps the head: install and publish see what an accepted prepare saw.
pub calls-heads : (o : Opening) → open_number o ≡ 0 → (cs : List Call) (t : ℕ) (more : List Call)
    → number_of (called (after o cs) (preparing t)).answer ≡ 0 → Lives (store_after o (cs ++ (preparing t ∷ more))) t
    → HeadKept (store_after o cs) (store_after o (cs ++ (preparing t ∷ more))) t
calls-heads = heads

-- An erase of nothing costs nothing: where every pending row erases nothing at prepare, install and publish leave every version, head, stamp and posting as
-- they were.
pub calls-nothing : (o : Opening) → open_number o ≡ 0 → (cs : List Call) (t : ℕ) (more : List Call)
    → number_of (called (after o cs) (preparing t)).answer ≡ 0 → Lives (store_after o (cs ++ (preparing t ∷ more))) t
    → ((r : ℕ) → Writes (store_after o cs).sizes (txn_of (store_after o cs) t) r → ErasesNothing (store_after o cs).chains (txn_of (store_after o cs) t) r)
    → CostsNothing (store_after o (cs ++ (preparing t ∷ more))) t
calls-nothing = costless

-- Every marked transaction is Open, so no call of rows meets one; and no more work is done in it, until it is aborted.
pub calls-marked : (o : Opening) → open_number o ≡ 0 → (cs : List Call) → MarkedOpen (view (after o cs))
calls-marked = marked-open

pub marked-calls : (o : Opening) → open_number o ≡ 0 → (cs : List Call) (t : ℕ) → Lives (store_after o cs) t → (txn_of (store_after o cs) t).marked ≡ true
    → MarkedCalls o cs t
marked-calls = stops

-- DEMAND 2, the read: rows that a call answers are a finished read, at the front of its list.
pub read-call : (o : Opening) → open_number o ≡ 0 → (cs : List Call) (t : ℕ) (lent : List ℕ) (n : ℕ)
    → (called (after o cs) (reading t lent)).answer ≡ tell.Rows n → ReadCall o cs t lent n
read-call = reads

-- DEMAND 3: the rows of such a read of a key, by a transaction with no pending write, stand where a later call of validate answers that there is no conflict.
pub validated-call : (o : Opening) (e : open_number o ≡ 0) (cs : List Call) (t k : ℕ) (lent : List ℕ) (n : ℕ)
    (q : (called (after o cs) (reading t lent)).answer ≡ tell.Rows n) (between : List Call)
    → (txn_of (store_after o cs) t).phase ≡ Collected k → (txn_of (store_after o cs) t).writes ≡ []
    → (called (after o (cs ++ (reading t lent ∷ between))) (validating t)).answer ≡ tell.Judged verdict.Clear
    → StandingRead (sizes_view o.sizes) (store_after o cs) (step (store_after o (cs ++ (reading t lent ∷ between))) (validate t)).store t k
    (read-call o e cs t lent n q).found
unfolding read-call
validated-call = stands

-- Of a call on any words: every word past what the sizes name is as it was.
pub past-call : (w : Words) (c : Call) → Typed w → PastCall w c
past-call = calls-kept

-- After an accepted open and any calls every word past what the sizes name is as it was lent to open.
pub calls-past : (o : Opening) → open_number o ≡ 0 → (cs : List Call) → PastCalls o cs
calls-past = past-calls

-- REQUEST (xiii): the calls were as if made in turn.
pub calls-in-turn : (o : Opening) → open_number o ≡ 0 → (cs : List Call) → CallsInTurn o cs
calls-in-turn = turns
