-- Wrong bodies of the crate `txn`.
-- Assumes nothing.
use Prim.Native.Nat.{ℕ, ◌+◌, ◌-◌, min}
use mathlib.Core.Path.{refl}
use mathlib.Core.Bool.{false, cond, not}
use mathlib.Core.List.{List, [], ◌∷◌}
use lib.Dec.{eqb, leb}
use lib.ListN.{get_or}
use Rattle.base_limits.specs.Limits.{most_rows}
use Rattle.model.specs.Store.{rank, phase_holding, phase_prepared, phase_installed, bucket_in, key_in}
use Rattle.model.specs.Refusals.{WrongPhase, Taken, Marked, ManyWrites, WrongShape}
use Rattle.base_protocol.specs.View.{refusal_told}
use Rattle.table.specs.Fields.{first_of}
use Rattle.table.specs.Lists.{writes}
use Rattle.table_postings.specs.Postings.{list_for, follow, keyed_of, listed_with}
use Rattle.base_protocol.specs.declared.Refusal.{Refusal}
use Rattle.base_protocol.specs.declared.Refusal.TheVariants as refused
use Rattle.txn.specs.declared.Phase.{Phase}
use Rattle.txn.specs.declared.Phase.TheVariants as phase
use Rattle.txn.specs.declared.Transaction.{Transaction}
use Rattle.txn.specs.declared.Parts.{Parts}
use Rattle.txn.specs.declared.Rest.{Rest}
use Rattle.txn.specs.declared.Answered.{Answered}
use Rattle.txn.specs.View.{phase_view}
use Rattle.txn.specs.Methods.{idle_of, phase_from, rest_of, parts_of, whole_of, with_phase, with_mark, with_writes, taken_by, refused_of}
use Rattle.txn.specs.Methods.{Left, LeftLists, left, capture_at, capture_of, write_of, collected_left, collect_of}
use Rattle.tightness.specs.Wrong.{Excludes}
use Rattle.tightness.proofs.Apart.{apart, either_way, itself, bit, number_in}
use Rattle.tightness.proofs.Computes.{computes}
use Rattle.tightness.proofs.Small.{live, writer, room_for}

-- the same transaction without its mark
abbrev unmarked : Transaction → Transaction
unmarked t = record {
  number = t.number;
  snapshot = t.snapshot;
  marked = false;
  phase = t.phase;
  slot = t.slot;
  reads_n = t.reads_n;
  writes_n = t.writes_n;
  records_n = t.records_n;
  candidates_n = t.candidates_n;
}

-- `phase_rank`: counted from 0
pub phase-rank-from-0 : Excludes (λ ph. rank (phase_view ph)) (λ ph. rank (phase_view ph) - 1)
phase-rank-from-0 = apart phase.Open itself refl

-- `phase_rank`: Ended counts as Installed
pub phase-rank-ended-installed : Excludes (λ ph. rank (phase_view ph)) (λ ph. min (rank (phase_view ph)) phase_installed)
phase-rank-ended-installed = apart phase.Ended itself refl

-- `bucket_in`: the key for the bucket
pub bucket-in-key : Excludes (λ ph. bucket_in (phase_view ph)) (λ ph. key_in (phase_view ph))
bucket-in-key = apart (phase.Holding 1 5) itself refl

-- `bucket_in`: no phase carries one
pub bucket-in-none : Excludes (λ ph. bucket_in (phase_view ph)) (λ ph. 0)
bucket-in-none = apart (phase.Holding 1 5) itself refl

-- `key-in`: the bucket for the key
pub key-in-bucket : Excludes (λ ph. key_in (phase_view ph)) (λ ph. bucket_in (phase_view ph))
key-in-bucket = either_way bucket-in-key

-- `key-in`: Collected carries none
pub key-in-holding-only : Excludes (λ ph. key_in (phase_view ph)) (λ ph. cond (eqb (rank (phase_view ph)) phase_holding) (key_in (phase_view ph)) 0)
key-in-holding-only = apart (phase.Collected 5) itself refl

-- `idle`: always of slot 0
pub idle-slot-0 : Excludes (λ slot. idle_of slot) (λ slot. idle_of 0)
idle-slot-0 = apart 1 (λ (t : Transaction). t.slot) refl

-- `idle`: a free place is marked
pub idle-marked : Excludes (λ slot. idle_of slot) (λ slot. with_mark (idle_of slot))
idle-marked = apart 0 (λ (t : Transaction). bit t.marked) refl

-- `by_another`: what is free is another's
pub by-another-free : Excludes {A = ℕ × ℕ} (λ (carried, n). taken_by carried n) (λ (carried, n). not (eqb carried n))
by-another-free = apart (0, 5) bit refl

-- `by_another`: what is one's own is another's
pub by-another-own : Excludes {A = ℕ × ℕ} (λ (carried, n). taken_by carried n) (λ (carried, n). not (eqb carried 0))
by-another-own = apart (5, 5) bit refl

-- `phase_from`: Installed comes back as Prepared
pub phase-from-installed-prepared : Excludes {A = ℕ × ℕ × ℕ} (λ (n, bucket, key). phase_from n bucket key)
    (λ (n, bucket, key). phase_from (cond (eqb n phase_installed) phase_prepared n) bucket key)
phase-from-installed-prepared = apart (phase_installed, 0, 0) (λ (ph : Phase). rank (phase_view ph)) refl

-- `phase_from`: bucket and key changed places
pub phase-from-key-for-bucket : Excludes {A = ℕ × ℕ × ℕ} (λ (n, bucket, key). phase_from n bucket key) (λ (n, bucket, key). phase_from n key bucket)
phase-from-key-for-bucket = apart (phase_holding, 1, 5) (λ (ph : Phase). bucket_in (phase_view ph)) refl

-- `rest_of`: the mark is lost
pub rest-of-unmarked : Excludes (λ t. rest_of t) (λ t. rest_of (unmarked t))
rest-of-unmarked = apart (with_mark (idle_of 0)) (λ (r : Rest). r.marked) refl

-- `rest_of`: nothing is pending
pub rest-of-writes-lost : Excludes (λ t. rest_of t) (λ t. rest_of (with_writes t 0))
rest-of-writes-lost = apart (writer phase.Open) (λ (r : Rest). r.writes_n) refl

-- `parts_of`: the slot is that of another place
pub parts-of-slot-0 : Excludes (λ t. parts_of t) (λ t. record { number = t.number; snapshot = t.snapshot; rest = rest_of t; slot = 0 })
parts-of-slot-0 = apart (idle_of 1) (λ (p : Parts). p.slot) refl

-- `parts_of`: the rest is that of a free place
pub parts-of-rest-fresh : Excludes (λ t. parts_of t) (λ t. record { number = t.number; snapshot = t.snapshot; rest = rest_of (idle_of 0); slot = t.slot })
parts-of-rest-fresh = apart (live 5 phase.Ended) (λ (p : Parts). p.rest.rank) refl

-- `whole`: the mark is lost
pub whole-unmarked : Excludes (λ p. whole_of p) (λ p. unmarked (whole_of p))
whole-unmarked = apart (parts_of (with_mark (idle_of 0))) (λ (t : Transaction). bit t.marked) refl

-- `whole`: always Open
pub whole_open : Excludes (λ p. whole_of p) (λ p. with_phase (whole_of p) phase.Open)
whole_open = apart (parts_of (live 5 phase.Ended)) (λ (t : Transaction). rank (phase_view t.phase)) refl

-- `refused`: the record comes back marked
pub refused-marks : Excludes {A = Transaction × Refusal} (λ (t, why). refused_of t why) (λ (t, why). refused_of (with_mark t) why)
refused-marks = apart (idle_of 0, refusal_told WrongPhase) (λ (a : Answered). bit a.txn.marked) refl

-- `refused`: always with number 5
pub refused-always-5 : Excludes {A = Transaction × Refusal} (λ (t, why). refused_of t why) (λ (t, why). refused_of t (refusal_told WrongPhase))
refused-always-5 = apart (idle_of 0, refusal_told Taken) (λ (a : Answered). number_in a.answer) refl

-- `refused`: a number that is none of document 01's is told as 16
pub refused-other-as-16 : Excludes {A = Transaction × ℕ} (λ (t, number). refused_of t (refused.Other number))
    (λ (t, number). refused_of t (refusal_told WrongShape))
refused-other-as-16 = apart (idle_of 0, 99) (λ (a : Answered). number_in a.answer) refl

-- `with_phase`: the phase stays
pub with-phase-stays : Excludes {A = Transaction × Phase} (λ (t, ph). with_phase t ph) (λ (t, ph). t)
with-phase-stays = apart (idle_of 0, phase.Ended) (λ (t : Transaction). rank (phase_view t.phase)) refl

-- `with_phase`: number and lists are lost
pub with-phase-forgets : Excludes {A = Transaction × Phase} (λ (t, ph). with_phase t ph) (λ (t, ph). with_phase (idle_of t.slot) ph)
with-phase-forgets = apart (live 5 phase.Open, phase.Ended) (λ (t : Transaction). t.number) refl

-- `with_mark`: no mark is set
pub with-mark-none : Excludes (λ t. with_mark t) (λ t. t)
with-mark-none = apart (idle_of 0) (λ (t : Transaction). bit t.marked) refl

-- `with_mark`: the transaction ends
pub with-mark-ends : Excludes (λ t. with_mark t) (λ t. with_phase (with_mark t) phase.Ended)
with-mark-ends = apart (idle_of 0) (λ (t : Transaction). rank (phase_view t.phase)) refl

-- what the contracts of `capture`, `put`, `erase` and `collect` ask for
abbrev capture : Transaction × List ℕ × List ℕ × ℕ × ℕ → Left
capture (t, buckets, lists, count, key) = capture_of t buckets lists count key

abbrev put : Transaction × List ℕ × ℕ × ℕ × ℕ × ℕ → LeftLists
put (t, lists, rows, row, key, payload) = write_of t lists rows (record { row = row; keyed = 1; key = key; payload = payload })

abbrev erase : Transaction × List ℕ × ℕ × ℕ → LeftLists
erase (t, lists, rows, row) = write_of t lists rows (record { row = row; keyed = 0; key = 0; payload = 0 })

abbrev collect : Transaction × List ℕ × List ℕ × List ℕ × ℕ → Left
collect (t, rows, buckets, lists, n) = collect_of t rows buckets lists n

-- one bucket, of stamp 1 and free, and room for one index read
abbrev capturing : Transaction × List ℕ × List ℕ × ℕ × ℕ
capturing = (live 5 phase.Open, 1 ∷ 0 ∷ [], 0 ∷ 0 ∷ [], 1, 7)

-- `capture`: the bucket is not taken
pub capture-bucket-free : Excludes capture
    (λ (t, buckets, lists, count, key). left (capture (t, buckets, lists, count, key)).reply buckets (capture (t, buckets, lists, count, key)).lists)
unfolding computes
capture-bucket-free = apart capturing (λ (l : Left). get_or l.buckets 1 0) refl

-- `capture`: no index read is added
pub capture-no-index-read : Excludes capture
    (λ (t, buckets, lists, count, key). left (capture (t, buckets, lists, count, key)).reply (capture (t, buckets, lists, count, key)).buckets lists)
unfolding computes
capture-no-index-read = apart capturing (λ (l : Left). get_or l.lists 1 0) refl

-- `capture`: the bucket is the key itself
pub capture-key-itself : Excludes capture (λ (t, buckets, lists, count, key). capture_at t buckets lists key key)
unfolding computes
capture-key-itself = apart capturing (λ (l : Left). get_or l.buckets 1 0) refl

-- `capture`: always refused
pub capture-refuses : Excludes capture (λ (t, buckets, lists, count, key). left (refused_of t (refusal_told Marked)) buckets lists)
unfolding computes
capture-refuses = apart capturing (λ (l : Left). number_in l.reply.answer) refl

-- `put`: the payload goes where the key goes
pub put-payload-for-key : Excludes put (λ (t, lists, rows, row, key, payload). put (t, lists, rows, row, payload, key))
unfolding computes
put-payload-for-key = apart (live 5 phase.Open, room_for writes, 1, 0, 7, 9) (λ (l : LeftLists). get_or l.lists (writes.off + 2) 0) refl

-- `put`: written without a key, as an erase
pub put-keyless : Excludes put (λ (t, lists, rows, row, key, payload). erase (t, lists, rows, row))
unfolding computes
put-keyless = apart (live 5 phase.Open, room_for writes, 1, 0, 7, 9) (λ (l : LeftLists). get_or l.lists (writes.off + 1) 0) refl

-- `put`: a marked transaction goes on writing
pub put-mark-forgotten : Excludes put (λ (t, lists, rows, row, key, payload). put (unmarked t, lists, rows, row, key, payload))
unfolding computes
put-mark-forgotten = apart (with_mark (live 5 phase.Open), room_for writes, 1, 0, 7, 9) (λ (l : LeftLists). number_in l.reply.answer) refl

-- `put`: 8 after 6
pub put-row-before-mark : Excludes put
    (λ (t, lists, rows, row, key, payload). cond (leb rows row) (put (unmarked t, lists, rows, row, key, payload)) (put (t, lists, rows, row, key, payload)))
unfolding computes
put-row-before-mark = apart (with_mark (live 5 phase.Open), room_for writes, 1, 1, 7, 9) (λ (l : LeftLists). number_in l.reply.answer) refl

-- `put`: 8 before 5
pub put-mark-before-phase : Excludes put
    (λ (t, lists, rows, row, key, payload). cond t.marked (record { reply = refused_of t (refusal_told Marked); lists = lists })
    (put (t, lists, rows, row, key, payload)))
unfolding computes
put-mark-before-phase = apart (with_mark (live 5 phase.Prepared), room_for writes, 1, 0, 7, 9) (λ (l : LeftLists). number_in l.reply.answer) refl

-- `erase`: a marked transaction goes on erasing
pub erase-mark-forgotten : Excludes erase (λ (t, lists, rows, row). erase (unmarked t, lists, rows, row))
unfolding computes
erase-mark-forgotten = apart (with_mark (live 5 phase.Open), room_for writes, 1, 0) (λ (l : LeftLists). number_in l.reply.answer) refl

-- `erase`: written with the key 0
pub erase-keyed : Excludes erase (λ (t, lists, rows, row). put (t, lists, rows, row, 0, 0))
unfolding computes
erase-keyed = apart (live 5 phase.Open, room_for writes, 1, 0) (λ (l : LeftLists). get_or l.lists (writes.off + 1) 0) refl

-- `erase`: always refused
pub erase-refuses : Excludes erase (λ (t, lists, rows, row). record { reply = refused_of t (refusal_told ManyWrites); lists = lists })
unfolding computes
erase-refuses = apart (live 5 phase.Open, room_for writes, 1, 0) (λ (l : LeftLists). number_in l.reply.answer) refl

-- row 0 posted with key 7 and in the list of that key, whose bucket is held
abbrev collecting : Transaction × List ℕ × List ℕ × List ℕ × ℕ
collecting = (live 5 (phase.Holding 0 7), 0 ∷ 0 ∷ 1 ∷ 7 ∷ 0 ∷ 1 ∷ [], 0 ∷ 5 ∷ [], [], 1)

-- `collect`: the bucket stays held
pub collect-bucket-held : Excludes collect
    (λ (t, rows, buckets, lists, n). left (collect (t, rows, buckets, lists, n)).reply buckets (collect (t, rows, buckets, lists, n)).lists)
unfolding computes
collect-bucket-held = apart collecting (λ (l : Left). get_or l.buckets 1 0) refl

-- `collect`: the last row is not looked at
pub collect-last-row-missed : Excludes collect (λ (t, rows, buckets, lists, n).
    cond (not (eqb (rank (phase_view t.phase)) phase_holding)) (left (refused_of t (refusal_told WrongPhase)) buckets lists)
    (collected_left t (bucket_in (phase_view t.phase)) (key_in (phase_view t.phase))
    (keyed_of rows (key_in (phase_view t.phase))
    (follow rows (first_of rows (list_for n (key_in (phase_view t.phase)))) 0 (min (n - 1) most_rows))) buckets lists))
unfolding computes
collect-last-row-missed = apart collecting (λ (l : Left). number_in l.reply.answer) refl

-- key 6 is of list 1 of two, in which row 0 is; the phase carries bucket 0
abbrev carrying_other : Transaction × List ℕ × List ℕ × List ℕ × ℕ
carrying_other = (live 5 (phase.Holding 0 6), 0 ∷ 0 ∷ 1 ∷ 6 ∷ 0 ∷ 0 ∷ 0 ∷ 0 ∷ 0 ∷ 0 ∷ 0 ∷ 1 ∷ [], 0 ∷ 5 ∷ 0 ∷ 0 ∷ [], [], 2)

-- `collect`: the list of the number of the carried bucket is followed, not that of the key
pub collect-carried-list : Excludes collect (λ (t, rows, buckets, lists, n).
    cond (not (eqb (rank (phase_view t.phase)) phase_holding)) (left (refused_of t (refusal_told WrongPhase)) buckets lists)
    (collected_left t (bucket_in (phase_view t.phase)) (key_in (phase_view t.phase))
    (keyed_of rows (key_in (phase_view t.phase)) (follow rows (first_of rows (bucket_in (phase_view t.phase))) 0 (min n most_rows))) buckets lists))
unfolding computes
collect-carried-list = apart carrying_other (λ (l : Left). number_in l.reply.answer) refl

-- `collect`: the bucket of the number of the key's list is freed, not the one that the phase carries
pub collect-list-bucket-freed : Excludes collect (λ (t, rows, buckets, lists, n).
    cond (not (eqb (rank (phase_view t.phase)) phase_holding)) (left (refused_of t (refusal_told WrongPhase)) buckets lists)
    (collected_left t (list_for n (key_in (phase_view t.phase))) (key_in (phase_view t.phase))
    (listed_with rows n (key_in (phase_view t.phase))) buckets lists))
unfolding computes
collect-list-bucket-freed = apart carrying_other (λ (l : Left). get_or l.buckets 1 0) refl
