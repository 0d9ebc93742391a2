-- A log to see it at work: two that overlap and end in the other order, one not published, a read refused, an end refused, and a reader that gives up. Assumes
-- nothing.
use mathlib.Core.Path.{◌≡◌, refl}
use mathlib.Core.List.{List, [], ◌∷◌, map, zip, flat_map}
use mathlib.Core.Bool.{true}
use Prim.Native.Nat.{ℕ}
use lib.Dec.{ltb}
use borrow.Author.Tests.{ltb-true}
use Rattle.base_lists.specs.Lists.{all_of, join}
use Rattle.base_lists.proofs.ListLaws.{and_l, and_r}
use Rattle.model.specs.Refusals.{Step, begin, capture, collect, rows, put, prepare, install, end, publish, abort}
use Rattle.model.specs.Log.{Opening, Asking, number, widths, total, fields, command_of, whole, read_record}
use Rattle.model.specs.Report.{digits_step, digits_for, decimal, spaced, line}
use Rattle.model.specs.Replay.{write_then, record_then, replay_for, replay_from, replay}
use Rattle.model.proofs.Computes.{computes}
use Rattle.log_records.specs.Layout.{in_bytes, laid_out, framed, bytes_of, Bytes, no_bytes, one_byte}
use Rattle.model_in_turn.specs.Done.{entries}
use Rattle.model_in_turn.specs.InTurn.{end_order, done_by, in_turn}
use Rattle.log_in_turn.specs.Told.{commands_for, commands_in, lines_in, told, says_done, ends_told, reads_where, reads_told, reads_in_turn}
use Rattle.log_in_turn.specs.LogInTurn.{asked_in, commands_in_turn, log_in_turn, ReplayedInTurn}
use Rattle.log_in_turn.proofs.Promises.{replayed-in-turn}

-- the log of some steps: 4 rows, 8 versions, 4 buckets, clock 1
abbrev log_of : List Step → List ℕ
log_of steps = join bytes_of (Opening (record { rows = 4; versions = 8; buckets = 4 }) 1 ∷ map Asking steps)

-- 1 writes row 2; 3 and 4 begin; 4 reads it, at first with too little room, and ends unpublished; 3 reads, writes row 0 and ends, once more in vain; 6 reads
-- and aborts
abbrev log : List ℕ
log = log_of (
    begin ∷ put 1 2 6 10 ∷ prepare 1 ∷ install 1 ∷ end 1 ∷ publish 1
    ∷ begin ∷ begin
    ∷ capture 4 6 ∷ collect 4 ∷ rows 4 0 ∷ rows 4 4
    ∷ capture 3 3 ∷ collect 3 ∷ rows 3 4
    ∷ prepare 4 ∷ install 4 ∷ end 4
    ∷ put 3 0 1 7 ∷ prepare 3 ∷ install 3 ∷ end 3 ∷ end 3 ∷ publish 3
    ∷ begin ∷ capture 6 3 ∷ collect 6 ∷ rows 6 4 ∷ abort 6
    ∷ []
    )

-- in turn: 1 again, then 4 as 3 with its publish, then 3 as 5
abbrev in_order : List ℕ
in_order = log_of (
    begin ∷ put 1 2 6 10 ∷ prepare 1 ∷ install 1 ∷ end 1 ∷ publish 1
    ∷ begin ∷ capture 3 6 ∷ collect 3 ∷ rows 3 4 ∷ prepare 3 ∷ install 3 ∷ end 3 ∷ publish 3
    ∷ begin ∷ capture 5 3 ∷ collect 5 ∷ rows 5 4 ∷ put 5 0 1 7 ∷ prepare 5 ∷ install 5 ∷ end 5 ∷ publish 5
    ∷ []
    )

-- rows 0 1 2; rows 0 0
abbrev reads : List (List ℕ)
reads = (114 ∷ 111 ∷ 119 ∷ 115 ∷ 32 ∷ 48 ∷ 32 ∷ 49 ∷ 32 ∷ 50 ∷ 10 ∷ []) ∷ (114 ∷ 111 ∷ 119 ∷ 115 ∷ 32 ∷ 48 ∷ 32 ∷ 48 ∷ 10 ∷ []) ∷ []

-- one name that opens all that is computed of a log
unfoldable reckons : Unit {0}
unfolding computes number widths total fields command_of whole read_record digits_step digits_for decimal spaced line write_then record_then replay_for
    replay_from
    replay in_bytes laid_out framed bytes_of zip flat_map entries end_order done_by in_turn commands_for commands_in lines_in told says_done ends_told
    reads_where
    asked_in commands_in_turn log_in_turn
reckons = tt

-- its replay ends with 0, and so the statement is of this log
pub sample-ends : (replay log 1000).status ≡ 0
unfolding reckons
sample-ends = refl

all-bytes : (l : List ℕ) → all_of (λ b. ltb b 256) l ≡ true → Bytes l
unfolding all_of
all-bytes [] e = no_bytes
all-bytes (b ∷ l) e = one_byte (ltb-true b 256 (and_l (ltb b 256) _ e)) (all-bytes l (and_r (ltb b 256) _ e))

sample-bytes : all_of (λ b. ltb b 256) log ≡ true
unfolding reckons
sample-bytes = refl

pub sample-holds : ReplayedInTurn log 1000
sample-holds = replayed-in-turn log (all-bytes log sample-bytes) 1000 sample-ends

-- its recordThen, and the same reads by both reports
pub sample-turn : log_in_turn log ≡ in_order
unfolding reckons
sample-turn = refl

pub sample-reads : reads_in_turn (told log (replay log 1000).text) ≡ reads
unfolding reckons
sample-reads = refl

pub sample-turn-reads : reads_told (told in_order (replay in_order 1000).text) ≡ reads
unfolding reckons
sample-turn-reads = refl
