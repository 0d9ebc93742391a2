-- The transactions once a read is done: the reader's with the new records, every other as it was.
-- Assumes nothing.
use Prim.Native.Nat.{ℕ, ◌+◌, ◌≤◌, ◌<◌}
use mathlib.Core.Path.{◌≡◌, refl}
use mathlib.Core.Logic.{◌≢◌, inr}
use mathlib.Core.List.{List, [], ◌++◌, map, map-append}
use native.Mathlib.Omega.{arith}
use lib.ListN.{length}
use Rattle.base_limits.specs.Limits.{most_live, most_index_reads, most_writes, most_records, most_rows}
use Rattle.model.specs.Store as model
use Rattle.table.specs.Regions.{list_of}
use Rattle.table.specs.Lists.{reads, writes, records, candidates, read_of, write_of, record_of, candidate_of, lists_words, candidates_of}
use Rattle.table.specs.declared.lists.ReadRecord.{ReadRecord}
use Rattle.txn.specs.declared.Transaction.{Transaction}
use Rattle.txn.specs.View.{snapshot_view, record_view, reads_in, writes_in, records_in, txn_view}
use Rattle.read_record.specs.Recording.{put_records}
use Rattle.read_record.proofs.Appended.{put-length, put-records, put-other-list, put-other-slot}
use Rattle.read.specs.Rows.{done_txn}

-- a transaction's lists stand in the words: its slot is one of the eight, and each count is within its list's room
pub record Stands (lists : List ℕ) (t : Transaction) : Type 0 where
  pub slot-in : t.slot < most_live
  pub long : lists_words ≤ length lists
  pub reads-few : t.reads_n ≤ most_index_reads
  pub writes-few : t.writes_n ≤ most_writes
  pub records-few : t.records_n ≤ most_records
  pub candidates-few : t.candidates_n ≤ most_rows

module _ (lists : List ℕ) (t : Transaction) (rs : List ReadRecord) (st : Stands lists t) (h : t.records_n + length rs ≤ most_records) where
  no-candidates : (xs : List ℕ) → candidates_of xs t.slot 0 ≡ []
  unfolding list_of
  no-candidates xs = refl

  -- the reader: Open, with the new records behind the old, and no candidates
  pub put_view : txn_view (put_records lists t.slot t.records_n rs) (done_txn t (t.records_n + length rs)) ≡ record {
    number = t.number;
    snapshot = snapshot_view t.snapshot;
    marked = t.marked;
    phase = model.Open;
    reads = reads_in lists t;
    writes = writes_in lists t;
    records = records_in lists t ++ map record_view rs;
    candidates = [];
  }
  put_view =
      rw (
        put-other-list read_of reads t.reads_n st.reads-few (inr (omega arith)) lists t.slot t.records_n rs h,
        put-other-list write_of writes t.writes_n st.writes-few (inr (omega arith)) lists t.slot t.records_n rs h,
        put-records lists t.slot t.records_n rs st.slot-in st.long h,
        map-append,
        no-candidates (put_records lists t.slot t.records_n rs),
      )

  -- every other
  pub put-others : (u : Transaction) → u.slot ≢ t.slot → Stands lists u → txn_view (put_records lists t.slot t.records_n rs) u ≡ txn_view lists u
  put-others u d su =
      rw (
        put-other-slot read_of reads u.reads_n su.reads-few (omega arith) u.slot lists t.slot t.records_n rs d h,
        put-other-slot write_of writes u.writes_n su.writes-few (omega arith) u.slot lists t.slot t.records_n rs d h,
        put-other-slot record_of records u.records_n su.records-few (omega arith) u.slot lists t.slot t.records_n rs d h,
        put-other-slot candidate_of candidates u.candidates_n su.candidates-few (omega arith) u.slot lists t.slot t.records_n rs d h,
      )

  pub put-stands : Stands (put_records lists t.slot t.records_n rs) (done_txn t (t.records_n + length rs))
  put-stands = record {
    slot-in = st.slot-in;
    long = omega (arith, st.long, put-length lists t.slot t.records_n rs);
    reads-few = st.reads-few;
    writes-few = st.writes-few;
    records-few = h;
    candidates-few = omega arith;
  }
