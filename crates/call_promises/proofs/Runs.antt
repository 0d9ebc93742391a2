-- An open and calls that meet the premises of the page of statements: a read that finds a row, another transaction that publishes meanwhile, a clear verdict; a
-- prepare of erases of something and of nothing, and one of nothing alone; a capture that finds a stale stamp; and a transaction that reads before another
-- publishes, and comes to end after it. Assumes nothing.
use Prim.Native.Nat.{ℕ, ◌*◌}
use mathlib.Core.Path.{◌≡◌, refl, ap, ◌∙◌}
use mathlib.Core.Bool.{true}
use mathlib.Core.Option.{some}
use mathlib.Core.List.{List, [], ◌∷◌, ◌++◌, map}
use native.Mathlib.Omega.{arith}
use lib.ListN.{take, drop, replicate}
use Rattle.model.specs.Store.{Collected}
use Rattle.model.specs.Contents.{content_of, shown_to}
use Rattle.model.specs.Refusals.{Step as Asked, begin, capture, collect, rows, put, prepare, install, end, publish, txn_of}
use Rattle.model.specs.Holding.{Writes, ErasesNothing}
use Rattle.model.specs.Given.{Lives}
use Rattle.model.specs.Shape.{good_sizes}
use Rattle.model.specs.Machine.{run, can_open}
use Rattle.model.proofs.Computes.{computes}
use Rattle.model.proofs.Reached as reached
use Rattle.model_in_turn.specs.Done.{Entry, entries}
use Rattle.model_in_turn.specs.InTurn.{end_order, done_by, in_turn, steps_in}
use Rattle.base_protocol.specs.declared.Step.{Step}
use Rattle.base_protocol.specs.declared.Step.TheVariants as ask
use Rattle.base_protocol.specs.declared.Answer.TheVariants as tell
use Rattle.base_protocol.specs.declared.Verdict.TheVariants as verdict
use Rattle.base_protocol.specs.View.{told}
use Rattle.report_answers.specs.Answers.{number_of}
use Rattle.table.specs.Fields.{row_words, version_words, bucket_words}
use Rattle.table.specs.Lists.{lists_words}
use Rattle.call.specs.Calls.{open_of}
use Rattle.call_promises.specs.Calls.{Call, called}
use Rattle.call_promises.specs.Demands.{Opening, opened, open_number, after, store_after, reading, validating, preparing}
use Rattle.call_promises.specs.InTurn.{bare, calls_done, calls_one_by_one}
use Rattle.call_promises.proofs.Sequences.{answer-after, number-after}
use Rattle.call_promises.proofs.InTurn.{done-after, turn-after}

-- 4 rows, 8 versions and 4 buckets, over tables full of sevens
abbrev pub o : Opening
o = record {
  rows = replicate (row_words * 4) 7;
  versions = replicate (version_words * 9) 7;
  buckets = replicate (bucket_words * 4) 7;
  lists = replicate lists_words 7;
  sizes = record { rows = 4; versions = 8; buckets = 4 };
  clock = 1;
  clock-in = omega arith;
}

pub opens : open_number o ≡ 0
unfolding open_of can_open good_sizes
opens = refl

-- the calls that ask for the steps of `Reached`
abbrev pub without : List Step → List Call
without ss = map bare ss

abbrev pub before : List Call
before = without (ask.Begin ∷ ask.Put 1 2 6 10 ∷ ask.Prepare 1 ∷ ask.Install 1 ∷ ask.End 1 ∷ ask.Publish 1 ∷ ask.Begin ∷ ask.Capture 3 6 ∷ ask.Collect 3 ∷ [])

abbrev pub between : List Call
between = without (ask.Begin ∷ ask.Put 4 0 3 7 ∷ ask.Prepare 4 ∷ ask.Install 4 ∷ ask.End 4 ∷ ask.Publish 4 ∷ ask.Publish 4 ∷ [])

abbrev pub list : List ℕ
list = 7 ∷ 7 ∷ 7 ∷ 7 ∷ []

pub read : (called (after o before) (reading 3 list)).answer ≡ tell.Rows 1
read = answer-after o opens before (reading 3 list) ∙ ap told (reached.met).1

pub collected : ((txn_of (store_after o before) 3).phase ≡ Collected 6) × ((txn_of (store_after o before) 3).writes ≡ [])
collected = ((reached.met).2, (reached.met).3)

pub validated : (called (after o (before ++ (reading 3 list ∷ between))) (validating 3)).answer ≡ tell.Judged verdict.Clear
unfolding run
validated = answer-after o opens (before ++ (reading 3 list ∷ between)) (validating 3) ∙ ap told (reached.met).4

-- transaction 3 erases the empty rows 0 and 1, this one after a put, and row 2, which is live; once it is prepared another is installed, and then it is itself:
-- the premises of calls-heads
abbrev pub erasing : List Call
erasing = without (ask.Begin ∷ ask.Put 1 2 6 10 ∷ ask.Prepare 1 ∷ ask.Install 1 ∷ ask.End 1 ∷ ask.Publish 1 ∷ ask.Begin ∷ ask.Erase 3 0 ∷ ask.Put 3 1 5 8
    ∷ ask.Erase 3 1 ∷ ask.Erase 3 2 ∷ [])

abbrev pub meanwhile : List Call
meanwhile = without (ask.Begin ∷ ask.Put 4 3 3 7 ∷ ask.Prepare 4 ∷ ask.Install 4 ∷ ask.Install 3 ∷ [])

pub claimed : (number_of (called (after o erasing) (preparing 3)).answer ≡ 0) × Lives (store_after o (erasing ++ (preparing 3 ∷ meanwhile))) 3
unfolding run
claimed = (number-after o opens erasing (preparing 3) ∙ (reached.met-heads).0, (reached.met-heads).3)

-- transaction 1 erases two empty rows, one of them after a put: the premises of calls-nothing
abbrev pub emptying : List Call
emptying = without (ask.Begin ∷ ask.Erase 1 0 ∷ ask.Put 1 1 5 8 ∷ ask.Erase 1 1 ∷ [])

pub emptied : (number_of (called (after o emptying) (preparing 1)).answer ≡ 0)
    × Lives (store_after o (emptying ++ (preparing 1 ∷ without (ask.Install 1 ∷ ask.End 1 ∷ [])))) 1
    × ((r : ℕ) → Writes (store_after o emptying).sizes (txn_of (store_after o emptying) 1) r
    → ErasesNothing (store_after o emptying).chains (txn_of (store_after o emptying) 1) r)
unfolding run
emptied = (number-after o opens emptying (preparing 1) ∙ (reached.met-nothing).0, (reached.met-nothing).1, (reached.met-nothing).2)

-- the calls after which transaction 3 is marked: the premises of marked-calls
abbrev pub stale : List Call
stale = without (ask.Begin ∷ ask.Put 1 2 6 10 ∷ ask.Prepare 1 ∷ ask.Install 1 ∷ ask.End 1 ∷ ask.Publish 1 ∷ ask.Begin ∷ ask.Begin ∷ ask.Put 4 0 2 7
    ∷ ask.Prepare 4 ∷ ask.Install 4 ∷ ask.End 4 ∷ ask.Publish 4 ∷ ask.Capture 3 6 ∷ [])

pub marked : Lives (store_after o stale) 3 × ((txn_of (store_after o stale) 3).marked ≡ true)
unfolding run
marked = ((reached.met-marked).0, (reached.met-marked).1)

-- transaction 3 reads key 6, 4 begins and publishes, and then 3 writes row 1 and comes to end, with no publish
abbrev pub ending : List Call
ending = before ++ (reading 3 list ∷ (between ++ without (ask.Put 3 1 5 8 ∷ ask.Prepare 3 ∷ ask.Install 3 ∷ ask.End 3 ∷ [])))

-- their call: 1, then 4 as number 3, and then 3 as number 5
abbrev pub call : List Asked
call = begin ∷ put 1 2 6 10 ∷ prepare 1 ∷ install 1 ∷ end 1 ∷ publish 1 ∷ begin ∷ put 3 0 3 7 ∷ prepare 3 ∷ install 3 ∷ end 3 ∷ publish 3 ∷ begin
    ∷ capture 5 6 ∷ collect 5 ∷ rows 5 4 ∷ put 5 1 5 8 ∷ prepare 5 ∷ install 5 ∷ end 5 ∷ publish 5 ∷ []

-- what calls-in-turn speaks of there: its read, the sixteenth, is to hand over row 2 with key 6 and payload 10
pub taking-turns : (end_order (calls_done (opened o) ending) ≡ 1 ∷ 4 ∷ 3 ∷ []) × (steps_in (calls_one_by_one o ending) ≡ call)
    × (take 1 (drop 15 (calls_one_by_one o ending)) ≡ record { who = 5; what = rows 5 4; read = (2, some (6, 10)) ∷ [] } ∷ [])
unfolding computes entries end_order done_by in_turn shown_to content_of
taking-turns = (
  ap end_order (done-after o opens ending),
  ap steps_in (turn-after o opens ending),
  ap (λ (es : List Entry). take 1 (drop 15 es)) (turn-after o opens ending),
)
