-- The verdict over the words: the model's, of what the tables and the record show.
use Rattle.std.specs.Prelude.{ℕ, suc, min, Bool, cond, not, ◌&&◌, ◌||◌, List, [], ◌∷◌, eqb, leb, ltb, Option, Some, None}
use Rattle.base_limits.specs.Limits.{most_active}
use Rattle.base_lists.specs.Lists.{least}
use Rattle.model.specs.Store as model
use Rattle.model.specs.Verdict as judged
use Rattle.base_protocol.specs.View.{verdict_told}
use Rattle.base_protocol.specs.declared.Verdict.{Verdict}
use Rattle.base_protocol.specs.declared.Verdict.TheVariants as verdict
use Rattle.table.specs.Fields.{xmin_of, xmax_of, stamp_of}
use Rattle.table.specs.Lists.{read_at, record_at}
use Rattle.table.specs.declared.lists.ReadRecord.{ReadRecord}
use Rattle.table_chain.specs.Chain.{active_of}
use Rattle.table_chain.specs.declared.Snapshot.{Snapshot}
use Rattle.txn.specs.declared.Transaction.{Transaction}
use Rattle.txn.specs.View.{snapshot_view, reads_in, records_in, chains_view, index_view, txn_view}

-- the versions as the model has them: the verdict reads xmin and xmax
abbrev pub versions_view : List ℕ → model.Chains
versions_view versions = chains_view [] versions 0

-- the buckets as the model has them: the verdict reads the stamps
abbrev pub stamps_view : List ℕ → model.Index
stamps_view buckets = index_view [] buckets

-- the verdict in document 01's order, as it is told
abbrev pub verdict_of : List ℕ → List ℕ → List ℕ → Transaction → Verdict
verdict_of versions buckets lists t = verdict_told (judged.verdict (versions_view versions) (stamps_view buckets) (txn_view lists t))

-- the first place at which the test holds, counted from k
unfoldable pub first_where : {A : Type 0} → (A → Bool) → ℕ → List A → Option ℕ
first_where test k [] = None
first_where test k (x ∷ xs) = cond (test x) (Some k) (first_where test (suc k) xs)

-- the place of the first index read whose bucket has changed
abbrev pub changed_read : List ℕ → List ℕ → Transaction → Option ℕ
changed_read buckets lists t = first_where (judged.bad_read (stamps_view buckets) t.number) 0 (reads_in lists t)

-- a read record is bad for this transaction
abbrev pub bad_in : List ℕ → Transaction → model.ReadRecord → Bool
bad_in versions t = judged.bad_record (versions_view versions) t.number (snapshot_view t.snapshot)

-- the place of the first read record that has changed
abbrev pub changed_record : List ℕ → List ℕ → Transaction → Option ℕ
changed_record versions lists t = first_where (bad_in versions t) 0 (records_in lists t)

-- what is told of index read i, and of the read record at a place
abbrev pub bucket_told : List ℕ → List ℕ → ℕ → ℕ → Verdict
bucket_told buckets lists slot i = verdict.Bucket (read_at lists slot i).bucket (read_at lists slot i).stamp (stamp_of buckets (read_at lists slot i).bucket)

abbrev pub row_told : List ℕ → ℕ → Option ℕ → Verdict
row_told lists slot (Some i) = verdict.Row (record_at lists slot i).row (record_at lists slot i).ptr
row_told lists slot None = verdict.Clear

-- the number that ended a version; 0 where none did, or the own number
abbrev pub ended_by : List ℕ → ℕ → ℕ → ℕ
ended_by versions ptr n = cond (eqb (xmax_of versions ptr) n) 0 (xmax_of versions ptr)

-- a read record has changed whatever is active
abbrev pub outright : List ℕ → ReadRecord → ℕ → ℕ → Bool
outright versions r ended xmax = not (eqb (xmin_of versions r.ptr) r.xmin) || (not (eqb ended 0) && leb xmax ended)

-- how many of the active numbers are looked at: none for 0, and for a number below the snapshot's xmin and all of them
abbrev pub looked_for : ℕ → Snapshot → ℕ
looked_for ended s = cond (eqb ended 0 || ltb ended (least s.xmin (active_of s))) 0 (min s.active_n most_active)
