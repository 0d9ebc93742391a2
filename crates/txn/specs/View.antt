-- The transaction's record and the lent tables as the model has them.
use Rattle.std.specs.Prelude.{ℕ, ◌*◌, suc, cond, List, map, eqb, take}
use Rattle.std.proofs.Math.Option.{Option, none, some}
use Rattle.model.specs.Store as model
use Rattle.table.specs.Fields.{
  row_words,
  version_words,
  bucket_words,
  head_of,
  claim_of,
  posted_of,
  posted_key_of,
  xmin_of,
  xmax_of,
  next_of,
  keyed_of,
  key_of,
  payload_of,
}
use Rattle.table.specs.Fields.{stamp_of, holder_of}
use Rattle.table.specs.Lists.{reads_of, writes_of, records_of, candidates_of}
use Rattle.table.specs.declared.lists.IndexRead.{IndexRead}
use Rattle.table.specs.declared.lists.Write.{Write}
use Rattle.table.specs.declared.lists.ReadRecord.{ReadRecord}
use Rattle.table_chain.specs.declared.Snapshot.{Snapshot}
use Rattle.txn.specs.declared.Phase.{Phase}
use Rattle.txn.specs.declared.Phase.TheVariants as phase
use Rattle.txn.specs.declared.Transaction.{Transaction}

-- a key beside the word that says whether there is one
abbrev pub key_view : ℕ → ℕ → Option ℕ
key_view keyed key = cond (eqb keyed 0) none (some key)

abbrev pub phase_view : Phase → model.Phase
phase_view phase.Open = model.Open
phase_view (phase.Holding b k) = model.Holding b k
phase_view (phase.Collected k) = model.Collected k
phase_view phase.Prepared = model.Prepared
phase_view phase.Installed = model.Installed
phase_view phase.Ended = model.Ended

-- the active numbers are the first of the seven, as many as the count says
abbrev pub snapshot_view : Snapshot → model.Snapshot
snapshot_view s = record { xmin = s.xmin; xmax = s.xmax; active = take s.active_n s.active }

abbrev pub read_view : IndexRead → model.IndexRead
read_view r = record { bucket = r.bucket; stamp = r.stamp }

abbrev pub write_view : Write → model.Write
write_view w = record { row = w.row; key = key_view w.keyed w.key; payload = w.payload }

abbrev pub record_view : ReadRecord → model.ReadRecord
record_view r = record { row = r.row; ptr = r.ptr; xmin = r.xmin }

-- a transaction's lists, from its slot of the lent lists
abbrev pub reads_in : List ℕ → Transaction → List model.IndexRead
reads_in lists t = map read_view (reads_of lists t.slot t.reads_n)

abbrev pub writes_in : List ℕ → Transaction → List model.Write
writes_in lists t = map write_view (writes_of lists t.slot t.writes_n)

abbrev pub records_in : List ℕ → Transaction → List model.ReadRecord
records_in lists t = map record_view (records_of lists t.slot t.records_n)

abbrev pub candidates_in : List ℕ → Transaction → List ℕ
candidates_in lists t = candidates_of lists t.slot t.candidates_n

abbrev pub txn_view : List ℕ → Transaction → model.Txn
txn_view lists t = record {
  number = t.number;
  snapshot = snapshot_view t.snapshot;
  marked = t.marked;
  phase = phase_view t.phase;
  reads = reads_in lists t;
  writes = writes_in lists t;
  records = records_in lists t;
  candidates = candidates_in lists t;
}

-- the part of a table that its size names: entries past it are none of the store's
abbrev pub rows_part : model.Sizes → List ℕ → List ℕ
rows_part z rows = take (row_words * z.rows) rows

-- pointers are from 1 up, so that there is an entry more than versions
abbrev pub versions_part : model.Sizes → List ℕ → List ℕ
versions_part z versions = take (version_words * suc z.versions) versions

abbrev pub buckets_part : model.Sizes → List ℕ → List ℕ
buckets_part z buckets = take (bucket_words * z.buckets) buckets

-- the three tables
abbrev pub chains_view : List ℕ → List ℕ → ℕ → model.Chains
chains_view rows versions used = record {
  used = used;
  head = head_of rows;
  xmin = xmin_of versions;
  xmax = xmax_of versions;
  next = next_of versions;
  key = λ p. key_view (keyed_of versions p) (key_of versions p);
  payload = payload_of versions;
}

abbrev pub index_view : List ℕ → List ℕ → model.Index
index_view rows buckets = record { stamp = stamp_of buckets; posted = λ r. key_view (posted_of rows r) (posted_key_of rows r) }

abbrev pub held_view : List ℕ → List ℕ → model.Held
held_view rows buckets = record { holder = holder_of buckets; claim = claim_of rows }
