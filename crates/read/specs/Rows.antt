-- The step rows: what it answers, and the record, the lists and the lent list that it leaves.
use Rattle.std.specs.Prelude.{ℕ, ◌+◌, min, cond, not, ◌&&◌, ◌||◌, List, [], ◌∷◌, eqb, ltb, length}
use Rattle.base_limits.specs.Limits.{most_rows, most_records}
use Rattle.base_lists.specs.Lists.{member, pick}
use Rattle.model.specs.Store.{rank, phase_collected, key_in}
use Rattle.model.specs.Refusals.{WrongPhase, NoRoom, ManyRecords}
use Rattle.base_protocol.specs.View.{refusal_told}
use Rattle.base_protocol.specs.declared.Refusal.{Refusal}
use Rattle.base_protocol.specs.declared.Answer.TheVariants as tell
use Rattle.base_protocol.specs.declared.Extent.{Extent}
use Rattle.table.specs.declared.lists.ReadRecord.{ReadRecord}
use Rattle.table_buckets.specs.Buckets.{laid}
use Rattle.txn.specs.View.{phase_view}
use Rattle.txn.specs.Methods.{refused_of}
use Rattle.txn.specs.declared.Phase.TheVariants as phase
use Rattle.txn.specs.declared.Transaction.{Transaction}
use Rattle.txn.specs.declared.Answered.{Answered}
use Rattle.read_match.specs.declared.Reading.{Reading}
use Rattle.read_match.specs.Matching.{Look, look, match_of, is_match, through_of}
use Rattle.read_gather.specs.Gathering.{wanted_rows}
use Rattle.read_record.specs.Recording.{known_pointers, record_for, put_records}

-- the rows of the store that are wanted and match, ascending; a row count above 1,024 acts as 1,024
unfoldable pub matched_rows : Look → ℕ → List ℕ
matched_rows l row_count = pick (λ r. member r (wanted_rows l.lists l.reading.txn) && is_match (match_of l r)) 0 (min row_count most_rows)

-- the pointer that a row is matched through
abbrev pub through : Look → ℕ → ℕ
through l r = through_of (match_of l r)

-- for each row matched through a version whose pointer is not yet recorded, a record, in row order
unfoldable pub new_records : Look → List ℕ → List ℕ → List ReadRecord
new_records l known [] = []
new_records l known (r ∷ rs) =
    cond (eqb (through l r) 0 || member (through l r) known) (new_records l known rs)
    (record_for l.versions r (through l r) ∷ new_records l (through l r ∷ known) rs)

-- a room above 1,024 counts as 1,024; the lent list may be shorter
abbrev pub room_for : ℕ → ℕ → ℕ
room_for room len = min (min room most_rows) len

-- the transaction once its read is done: Open, without candidates
abbrev pub done_txn : Transaction → ℕ → Transaction
done_txn t n = record {
  number = t.number;
  snapshot = t.snapshot;
  marked = t.marked;
  phase = phase.Open;
  slot = t.slot;
  reads_n = t.reads_n;
  writes_n = t.writes_n;
  records_n = n;
  candidates_n = 0;
}

-- an answer, the lists and the lent list
pub record LeftRows : Type 0 where
  pub reply : Answered
  pub lists : List ℕ
  pub found : List ℕ

abbrev pub refused_rows : List ℕ → List ℕ → Transaction → Refusal → LeftRows
refused_rows lists found t why = record { reply = refused_of t why; lists = lists; found = found }

-- a read that is done: the rows go to the front of the lent list, the new records behind the old
abbrev pub done_rows : List ℕ → List ℕ → List ℕ → List ReadRecord → Transaction → LeftRows
done_rows lists found rs new t = record {
  reply = record { answer = tell.Rows (length rs); txn = done_txn t (t.records_n + length new) };
  lists = put_records lists t.slot t.records_n new;
  found = laid rs found;
}

-- the tests: a lent list too short, then more than 128 read records
abbrev pub answer_of : List ℕ → List ℕ → List ℕ → List ReadRecord → Reading → LeftRows
answer_of lists found rs new d =
    cond (ltb (room_for d.room (length found)) (length rs)) (refused_rows lists found d.txn (refusal_told NoRoom))
    (cond (ltb most_records (d.txn.records_n + length new)) (refused_rows lists found d.txn (refusal_told ManyRecords))
    (done_rows lists found rs new d.txn))

-- a read of what is looked at
unfoldable pub reading_of : Look → List ℕ → ℕ → LeftRows
reading_of l found row_count =
    answer_of l.lists found (matched_rows l row_count)
    (new_records l (known_pointers l.lists l.reading.txn.slot l.reading.txn.records_n) (matched_rows l row_count)) l.reading

-- who reads what in its phase
abbrev pub reading_by : Extent → Transaction → ℕ → Reading
reading_by e t room = record { txn = t; key = key_in (phase_view t.phase); used = e.used; room = room }

-- rows: wrong phase first
unfoldable pub rows_of : List ℕ → List ℕ → List ℕ → List ℕ → Extent → Transaction → ℕ → LeftRows
rows_of rows versions lists found e t room =
    cond (not (eqb (rank (phase_view t.phase)) phase_collected)) (refused_rows lists found t (refusal_told WrongPhase))
    (reading_of (look rows versions lists (reading_by e t room)) found e.sizes.rows)
