-- Document 01's table of numbers, as facts: when each is given, in which order, and what an accepted step answers.
use Rattle.std.specs.Prelude.{ℕ, ◌+◌, ◌≤◌, ◌<◌, min, ◌≡◌, true, false, cond, ◌≢◌, ◌⊎◌, List, length}
use Rattle.base_limits.specs.Limits.{most_rows, most_versions, most_buckets, most_live, most_index_reads, most_records, most_writes, last_number}
use Rattle.base_lists.specs.Lists.{Among}
use Rattle.model.specs.Store.{Sizes, Store, phase_open, phase_holding, phase_collected, phase_prepared, phase_installed, phase_ended, rank, key_in, bucket_of}
use Rattle.model.specs.Verdict.{verdict, verdict_number}
use Rattle.model.specs.Steps.{has_read, posted_rows, found_rows, records_after, pending_rows, read_buckets, needed_buckets}
use Rattle.model.specs.Refusals.{WrongSize, refusal_number, Step, begin, capture, collect, rows, write, prepare, install, end, publish, validate, abort}
use Rattle.model.specs.Refusals.{txn_of, live_count, versions_after}
use Rattle.model.specs.Shape.{right_shape}
use Rattle.model.specs.Machine.{Answer, Done, Number, Stamp, Count, Rows, Judged, answer_number, actor, step, can_open}

-- both, read on to the right
infixr 3 ◌and◌
abbrev pub ◌and◌ : Type 0 → Type 0 → Type 0
◌and◌ P Q = P × Q

-- the number that a step gives
abbrev pub number : Store → Step → ℕ
number s a = answer_number (step s a).answer

-- the shape is right
abbrev pub Shaped : Store → Type 0
Shaped s = right_shape s ≡ true

-- a live transaction has this number
abbrev pub Lives : Store → ℕ → Type 0
Lives s t = (i : ℕ) × (i < most_live) × ((s.txns i).number ≡ t) × (1 ≤ t)

-- a step names a transaction: all but begin do
abbrev pub Names : Step → Type 0
Names begin = ⊥
Names (capture t k) = Unit {0}
Names (collect t) = Unit {0}
Names (rows t room) = Unit {0}
Names (write t r c) = Unit {0}
Names (prepare t) = Unit {0}
Names (install t) = Unit {0}
Names (end t) = Unit {0}
Names (publish t) = Unit {0}
Names (validate t) = Unit {0}
Names (abort t) = Unit {0}

-- the phases in which a step is right, by rank
abbrev pub Right : Step → ℕ → Type 0
Right begin n = Unit {0}
Right (capture t k) n = n ≡ phase_open
Right (collect t) n = n ≡ phase_holding
Right (rows t room) n = n ≡ phase_collected
Right (write t r c) n = n ≡ phase_open
Right (prepare t) n = n ≡ phase_open
Right (install t) n = n ≡ phase_prepared
Right (end t) n = n ≡ phase_installed
Right (publish t) n = n ≡ phase_ended
Right (validate t) n = n ≡ phase_open
Right (abort t) n = n < phase_installed

abbrev pub RightPhase : Store → Step → Type 0
RightPhase s a = Right a (rank (txn_of s (actor a)).phase)

-- neither 16 nor 4 nor 5
abbrev pub Ready : Store → Step → Type 0
Ready s a = Shaped s × Lives s (actor a) × RightPhase s a

-- held, or claimed, by another; free, or the own number's
abbrev pub ByAnother : (ℕ → ℕ) → ℕ → ℕ → Type 0
ByAnother f t j = (f j ≢ 0) × (f j ≢ t)

abbrev pub Free : (ℕ → ℕ) → ℕ → ℕ → Type 0
Free f t j = (f j ≡ 0) ⊎ (f j ≡ t)

-- a bucket of the list is held by another; none is
abbrev pub BucketTaken : Store → ℕ → List ℕ → Type 0
BucketTaken s t bs = (b : ℕ) × Among b bs × ByAnother s.held.holder t b

abbrev pub BucketsFree : Store → ℕ → List ℕ → Type 0
BucketsFree s t bs = (b : ℕ) → Among b bs → Free s.held.holder t b

-- a pending row is claimed by another; none is
abbrev pub RowTaken : Store → ℕ → Type 0
RowTaken s t = (r : ℕ) × Among r (pending_rows s.sizes (txn_of s t).writes) × ByAnother s.held.claim t r

abbrev pub RowsFree : Store → ℕ → Type 0
RowsFree s t = (r : ℕ) → Among r (pending_rows s.sizes (txn_of s t).writes) → Free s.held.claim t r

-- capture: the bucket, and its stamp
abbrev pub bucket_for : Store → ℕ → ℕ
bucket_for s k = bucket_of s.sizes k

abbrev pub stamp_for : Store → ℕ → ℕ
stamp_for s k = s.index.stamp (bucket_for s k)

-- capture would add a 17th index read; or it adds none, or there is room
abbrev pub Seventeenth : Store → ℕ → ℕ → Type 0
Seventeenth s t k = (has_read (txn_of s t).reads (bucket_for s k) ≡ false) × (most_index_reads ≤ length (txn_of s t).reads)

abbrev pub RoomForRead : Store → ℕ → ℕ → Type 0
RoomForRead s t k = (has_read (txn_of s t).reads (bucket_for s k) ≡ true) ⊎ (length (txn_of s t).reads < most_index_reads)

-- the verdict's number
abbrev pub verdict_of : Store → ℕ → ℕ
verdict_of s t = verdict_number (verdict s.chains s.index (txn_of s t))

-- open: a size outside its range
abbrev pub Outside : ℕ → ℕ → Type 0
Outside n most = (n < 1) ⊎ (most < n)

-- the number that open gives
abbrev pub open_number : Sizes → ℕ → ℕ
open_number z clock = cond (can_open z clock) 0 (refusal_number WrongSize)

-- a line of the table: n is this number where the case holds, and else the lines below say which it is
abbrev pub GivenWhen : ℕ → Type 0 → ℕ → Type 0 → Type 0
GivenWhen number Case n below = (Case × (n ≡ number)) ⊎ ((Case → ⊥) × below)

-- 16, 4 and 5 come first in every step that names a transaction
abbrev pub GivenNamed : Store → Step → ℕ → Type 0 → Type 0
GivenNamed s a n below = GivenWhen 16 (right_shape s ≡ false) n (GivenWhen 4 (Lives s (actor a) → ⊥) n (GivenWhen 5 (RightPhase s a → ⊥) n below))

-- a write: the mark, then the row, then a 17th pending write
abbrev pub GivenWriting : Store → ℕ → ℕ → ℕ → Type 0
GivenWriting s t r n =
    GivenWhen 8 ((txn_of s t).marked ≡ true) n (GivenWhen 6 (s.sizes.rows ≤ r) n (GivenWhen 12 (most_writes ≤ length (txn_of s t).writes) n (n ≡ 0)))

-- the number n that a step gives: the tests of document 01 from the first to the last, and 0 where none holds
abbrev pub Given : Store → Step → ℕ → Type 0
Given s begin n = GivenWhen 16 (right_shape s ≡ false) n
    (GivenWhen 3 (most_live ≤ live_count s.txns) n (GivenWhen 2 (last_number < s.clock + live_count s.txns + 2) n (n ≡ 0)))
Given s (capture t k) n = GivenNamed s (capture t k) n
    (GivenWhen 8 ((txn_of s t).marked ≡ true) n
    (GivenWhen 7 (ByAnother s.held.holder t (bucket_for s k)) n
    (GivenWhen 8 (t ≤ stamp_for s k) n
    (GivenWhen 9 (Seventeenth s t k) n
    (n ≡ 0)))))
Given s (collect t) n = GivenNamed s (collect t) n (n ≡ 0)
Given s (rows t room) n = GivenNamed s (rows t room) n
    (GivenWhen 10 (min room most_rows < length (found_rows s (txn_of s t))) n
    (GivenWhen 11 (most_records < length (records_after s (txn_of s t))) n
    (n ≡ 0)))
Given s (write t r c) n = GivenNamed s (write t r c) n (GivenWriting s t r n)
Given s (prepare t) n = GivenNamed s (prepare t) n
    (GivenWhen 7 (BucketTaken s t (needed_buckets s (txn_of s t)) ⊎ RowTaken s t) n
    (GivenWhen 14 (verdict_of s t ≢ 0) n
    (GivenWhen 13 (s.sizes.versions < versions_after s (txn_of s t)) n
    (n ≡ 0))))
Given s (install t) n = GivenNamed s (install t) n (n ≡ 0)
Given s (end t) n = GivenNamed s (end t) n (n ≡ 0)
Given s (publish t) n = GivenNamed s (publish t) n (n ≡ 0)
Given s (validate t) n = GivenNamed s (validate t) n (GivenWhen 7 (BucketTaken s t (read_buckets (txn_of s t))) n (n ≡ 0))
Given s (abort t) n = GivenNamed s (abort t) n (n ≡ 0)

-- open: 1 where a size is outside its range or the clock is 0
abbrev pub GivenOpen : Sizes → ℕ → ℕ → Type 0
GivenOpen z clock n = GivenWhen 1 (Outside z.rows most_rows ⊎ Outside z.versions most_versions ⊎ Outside z.buckets most_buckets ⊎ (clock ≡ 0)) n (n ≡ 0)

-- the refusal that marks: 8 by a stale stamp, and not by the mark
abbrev pub StaleStamp : Store → Step → Type 0
StaleStamp s begin = ⊥
StaleStamp s (capture t k) = Ready s (capture t k) and ((txn_of s t).marked ≡ false) and Free s.held.holder t (bucket_for s k) and (t ≤ stamp_for s k)
StaleStamp s (collect t) = ⊥
StaleStamp s (rows t room) = ⊥
StaleStamp s (write t r c) = ⊥
StaleStamp s (prepare t) = ⊥
StaleStamp s (install t) = ⊥
StaleStamp s (end t) = ⊥
StaleStamp s (publish t) = ⊥
StaleStamp s (validate t) = ⊥
StaleStamp s (abort t) = ⊥

-- document 01's answers: the number, the stamp of the bucket, the count of the posted rows, the rows, the new stamp, the verdict
abbrev pub documented : Store → Step → Answer
documented s begin = Number s.clock
documented s (capture t k) = Stamp (stamp_for s k)
documented s (collect t) = Count (length (posted_rows s (key_in (txn_of s t).phase)))
documented s (rows t room) = Rows (found_rows s (txn_of s t))
documented s (write t r c) = Done
documented s (prepare t) = Done
documented s (install t) = Done
documented s (end t) = Done
documented s (publish t) = Stamp s.clock
documented s (validate t) = Judged (verdict s.chains s.index (txn_of s t))
documented s (abort t) = Done
