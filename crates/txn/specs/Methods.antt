-- What the record's methods give back, and the words they leave.
use Rattle.std.specs.Prelude.{ℕ, ◌+◌, ◌%◌, Bool, true, false, cond, not, ◌&&◌, List, [], ◌∷◌, eqb, ltb, leb, replicate, length, Option, Some, None}
use Rattle.base_limits.specs.Limits.{most_active, most_index_reads, most_writes}
use Rattle.model.specs.Store.{rank, phase_open, phase_holding, phase_collected, phase_prepared, phase_installed, phase_ended, bucket_in, key_in}
use Rattle.model.specs.Refusals.{WrongPhase, NoRow, Taken, Marked, ManyReads, ManyWrites, Stale}
use Rattle.base_protocol.specs.View.{refusal_told}
use Rattle.base_protocol.specs.declared.Refusal.{Refusal}
use Rattle.base_protocol.specs.declared.Answer.TheVariants as tell
use Rattle.table.specs.Fields.{stamp_of, holder_of, set_holder}
use Rattle.table.specs.Lists.{reads, writes, stored}
use Rattle.table.specs.declared.lists.Write.{Write}
use Rattle.table_scans.specs.Scans.{read_prefix}
use Rattle.table_buckets.specs.Buckets.{precedes}
use Rattle.table_postings.specs.Postings.{listed_with, kept_in}
use Rattle.txn.specs.declared.Phase.{Phase}
use Rattle.txn.specs.declared.Phase.TheVariants as phase
use Rattle.txn.specs.declared.Transaction.{Transaction}
use Rattle.txn.specs.declared.Parts.{Parts}
use Rattle.txn.specs.declared.Rest.{Rest}
use Rattle.txn.specs.declared.Answered.{Answered}
use Rattle.txn.specs.View.{phase_view}

-- what stands at a free place
abbrev pub idle_of : ℕ → Transaction
idle_of slot = record {
  number = 0;
  snapshot = record { xmin = 0; xmax = 0; active = replicate most_active 0; active_n = 0 };
  marked = false;
  phase = phase.Open;
  slot = slot;
  reads_n = 0;
  writes_n = 0;
  records_n = 0;
  candidates_n = 0;
}

-- the phase of a number, with the bucket and the key that it carries
abbrev pub phase_from : ℕ → ℕ → ℕ → Phase
phase_from rank b k =
    cond (eqb rank phase_holding) (phase.Holding b k)
    (cond (eqb rank phase_collected) (phase.Collected k)
    (cond (eqb rank phase_prepared) phase.Prepared
    (cond (eqb rank phase_installed) phase.Installed
    (cond (eqb rank phase_ended) phase.Ended phase.Open))))

-- the mark as a word
abbrev pub mark_word : Bool → ℕ
mark_word marked = cond marked 1 0

-- the record without its number, its snapshot and its slot, in words
abbrev pub rest_of : Transaction → Rest
rest_of t = record {
  marked = mark_word t.marked;
  rank = rank (phase_view t.phase);
  bucket = bucket_in (phase_view t.phase);
  key = key_in (phase_view t.phase);
  reads_n = t.reads_n;
  writes_n = t.writes_n;
  records_n = t.records_n;
  candidates_n = t.candidates_n;
}

-- the record of its parts
abbrev pub whole_of : Parts → Transaction
whole_of p = record {
  number = p.number;
  snapshot = p.snapshot;
  marked = not (eqb p.rest.marked 0);
  phase = phase_from p.rest.rank p.rest.bucket p.rest.key;
  slot = p.slot;
  reads_n = p.rest.reads_n;
  writes_n = p.rest.writes_n;
  records_n = p.rest.records_n;
  candidates_n = p.rest.candidates_n;
}

-- the parts of a record
abbrev pub parts_of : Transaction → Parts
parts_of t = record { number = t.number; snapshot = t.snapshot; rest = rest_of t; slot = t.slot }

-- one part of the record anew
abbrev pub with_phase : Transaction → Phase → Transaction
with_phase t ph = record {
  number = t.number;
  snapshot = t.snapshot;
  marked = t.marked;
  phase = ph;
  slot = t.slot;
  reads_n = t.reads_n;
  writes_n = t.writes_n;
  records_n = t.records_n;
  candidates_n = t.candidates_n;
}

abbrev pub with_mark : Transaction → Transaction
with_mark t = record {
  number = t.number;
  snapshot = t.snapshot;
  marked = true;
  phase = t.phase;
  slot = t.slot;
  reads_n = t.reads_n;
  writes_n = t.writes_n;
  records_n = t.records_n;
  candidates_n = t.candidates_n;
}

abbrev pub with_reads : Transaction → ℕ → Transaction
with_reads t n = record {
  number = t.number;
  snapshot = t.snapshot;
  marked = t.marked;
  phase = t.phase;
  slot = t.slot;
  reads_n = n;
  writes_n = t.writes_n;
  records_n = t.records_n;
  candidates_n = t.candidates_n;
}

abbrev pub with_writes : Transaction → ℕ → Transaction
with_writes t n = record {
  number = t.number;
  snapshot = t.snapshot;
  marked = t.marked;
  phase = t.phase;
  slot = t.slot;
  reads_n = t.reads_n;
  writes_n = n;
  records_n = t.records_n;
  candidates_n = t.candidates_n;
}

abbrev pub with_candidates : Transaction → ℕ → Transaction
with_candidates t n = record {
  number = t.number;
  snapshot = t.snapshot;
  marked = t.marked;
  phase = t.phase;
  slot = t.slot;
  reads_n = t.reads_n;
  writes_n = t.writes_n;
  records_n = t.records_n;
  candidates_n = n;
}

-- taken by another: neither free nor the own number's
abbrev pub taken_by : ℕ → ℕ → Bool
taken_by carried n = not (eqb carried 0) && not (eqb carried n)

-- a refusal, with the record that came in
abbrev pub refused_of : Transaction → Refusal → Answered
refused_of t why = record { answer = tell.Refused why; txn = t }

-- the record and the lists
pub record WithLists : Type 0 where
  pub txn : Transaction
  pub lists : List ℕ

-- an answer and the lists
pub record LeftLists : Type 0 where
  pub reply : Answered
  pub lists : List ℕ

-- an answer, buckets and lists
pub record Left : Type 0 where
  pub reply : Answered
  pub buckets : List ℕ
  pub lists : List ℕ

abbrev pub left : Answered → List ℕ → List ℕ → Left
left a buckets lists = record { reply = a; buckets = buckets; lists = lists }

-- ---- capture

-- a bucket without an index read would get a 17th
abbrev pub too_many : Option ℕ → ℕ → Bool
too_many (Some i) n = false
too_many None n = leb most_index_reads n

-- the first capture of a bucket adds one index read (bucket, stamp), a later one adds none; becomes Holding
unfoldable pub hold_of : Transaction → List ℕ → Option ℕ → ℕ → ℕ → ℕ → WithLists
hold_of t lists (Some i) b k stamp = record { txn = with_phase t (phase.Holding b k); lists = lists }
hold_of t lists None b k stamp =
    record { txn = with_reads (with_phase t (phase.Holding b k)) (t.reads_n + 1); lists = stored reads lists t.slot t.reads_n (b ∷ stamp ∷ []) }

abbrev pub held_left : ℕ → WithLists → List ℕ → Left
held_left stamp h buckets = left (record { answer = tell.Stamp stamp; txn = h.txn }) buckets h.lists

-- capture of bucket b: wrong phase, mark, held by another, stale stamp, a 17th index read; else the bucket is taken
unfoldable pub capture_at : Transaction → List ℕ → List ℕ → ℕ → ℕ → Left
capture_at t buckets lists b k =
    cond (not (eqb (rank (phase_view t.phase)) phase_open)) (left (refused_of t (refusal_told WrongPhase)) buckets lists)
    (cond t.marked (left (refused_of t (refusal_told Marked)) buckets lists)
    (cond (taken_by (holder_of buckets b) t.number) (left (refused_of t (refusal_told Taken)) buckets lists)
    (cond (not (precedes (stamp_of buckets b) t.number)) (left (refused_of (with_mark t) (refusal_told Stale)) buckets lists)
    (cond (too_many (read_prefix lists t.slot t.reads_n b) t.reads_n) (left (refused_of t (refusal_told ManyReads)) buckets lists)
    (held_left (stamp_of buckets b) (hold_of t lists (read_prefix lists t.slot t.reads_n b) b k (stamp_of buckets b)) (set_holder buckets b t.number))))))

abbrev pub capture_of : Transaction → List ℕ → List ℕ → ℕ → ℕ → Left
capture_of t buckets lists bucket_count k = capture_at t buckets lists (k % bucket_count) k

-- ---- put, erase: wrong phase, mark, row not below the row count, a 17th pending write; else it is appended
unfoldable pub write_of : Transaction → List ℕ → ℕ → Write → LeftLists
write_of t lists row_count w =
    cond (not (eqb (rank (phase_view t.phase)) phase_open)) (record { reply = refused_of t (refusal_told WrongPhase); lists = lists })
    (cond t.marked (record { reply = refused_of t (refusal_told Marked); lists = lists })
    (cond (not (ltb w.row row_count)) (record { reply = refused_of t (refusal_told NoRow); lists = lists })
    (cond (leb most_writes t.writes_n) (record { reply = refused_of t (refusal_told ManyWrites); lists = lists })
    (record {
      reply = record { answer = tell.Done; txn = with_writes t (t.writes_n + 1) };
      lists = stored writes lists t.slot t.writes_n (w.row ∷ w.keyed ∷ w.key ∷ w.payload ∷ []);
    }))))

-- ---- collect

-- the posted rows are kept, and the bucket is free
abbrev pub collected_left : Transaction → ℕ → ℕ → List ℕ → List ℕ → List ℕ → Left
collected_left t b k rs buckets lists =
    left (record { answer = tell.Count (length rs); txn = with_candidates (with_phase t (phase.Collected k)) (length rs) }) (set_holder buckets b 0)
    (kept_in lists t.slot rs)

-- wrong phase; else of the key's list the rows posted with the key are kept, and the bucket that the phase carries is free
unfoldable pub collect_of : Transaction → List ℕ → List ℕ → List ℕ → ℕ → Left
collect_of t rows buckets lists row_count =
    cond (not (eqb (rank (phase_view t.phase)) phase_holding)) (left (refused_of t (refusal_told WrongPhase)) buckets lists)
    (collected_left t (bucket_in (phase_view t.phase)) (key_in (phase_view t.phase))
    (listed_with rows row_count (key_in (phase_view t.phase))) buckets lists)
