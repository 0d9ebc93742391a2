-- Upstream's own definitions of a conflict, over the words: `read_conflict`, `reads_conflict`, `read_good`, `reads_good`.
-- The binding of an index is left out: there is one index.
use Rattle.std.specs.Prelude.{ℕ, ◌<◌, ◌≡◌, Bool, true, not, ◌&&◌, ◌||◌, List, eqb, ltb, leb}
use Rattle.base_lists.specs.Lists.{member}
use Rattle.table.specs.Fields.{xmin_of, xmax_of, stamp_of}
use Rattle.table.specs.Lists.{read_at, record_at}
use Rattle.table.specs.declared.lists.IndexRead.{IndexRead}
use Rattle.table.specs.declared.lists.ReadRecord.{ReadRecord}
use Rattle.table_chain.specs.Chain.{active_of}
use Rattle.table_chain.specs.declared.Snapshot.{Snapshot}
use Rattle.txn.specs.declared.Transaction.{Transaction}

-- row.xmin != entry.xmin || (row.xmax != 0 && row.xmax != txid && (row.xmax >= snapshot_xmax || snapshot_active.contains(row.xmax)))
abbrev pub read_conflict : ℕ → ℕ → ReadRecord → ℕ → Snapshot → Bool
read_conflict xminᵥ xmaxᵥ entry own s =
    not (eqb xminᵥ entry.xmin)
    || (not (eqb xmaxᵥ 0) && not (eqb xmaxᵥ own) && (leb s.xmax xmaxᵥ || member xmaxᵥ (active_of s)))

-- whether read record i is in conflict with the version it was read at
abbrev pub conflict_at : List ℕ → List ℕ → Transaction → ℕ → Bool
conflict_at versions lists t i =
    read_conflict (xmin_of versions (record_at lists t.slot i).ptr) (xmax_of versions (record_at lists t.slot i).ptr) (record_at lists t.slot i)
    t.number t.snapshot

-- some record of the read set is
abbrev pub ReadsConflict : List ℕ → List ℕ → Transaction → Type 0
ReadsConflict versions lists t = (i : ℕ) × (i < t.records_n) × (conflict_at versions lists t i ≡ true)

-- stamps[r] == r.stamp && stamps[r] < txid
abbrev pub read_good : ℕ → IndexRead → ℕ → Bool
read_good stamp r own = eqb stamp r.stamp && ltb stamp own

abbrev pub ReadsGood : List ℕ → List ℕ → Transaction → Type 0
ReadsGood buckets lists t =
    (i : ℕ) → i < t.reads_n → read_good (stamp_of buckets (read_at lists t.slot i).bucket) (read_at lists t.slot i) t.number ≡ true
