-- The old and the new key of a pending row.
use Rattle.std.specs.Prelude.{ℕ, Bool, false, cond, not, ◌&&◌, ◌||◌, List, eqb, leb, Option as StdOption, Some, None}
use Rattle.std.proofs.Math.Option.{Option}
use Rattle.model.specs.Store.{rank, phase_installed, same_key}
use Rattle.txn.specs.View.{key_view, phase_view}
use Rattle.txn.specs.declared.Phase.{Phase}
use Rattle.txn.specs.declared.Transaction.{Transaction}
use Rattle.table_scans.specs.Scans.{latest_pending}
use Rattle.table.specs.Fields as fields
use Rattle.table.specs.Lists.{write_at}
use Rattle.txn_needs.specs.declared.Key.{Key}
use Rattle.txn_needs.specs.declared.Keys.{Keys}

-- a key as the model has it
abbrev pub key_of : Key → Option ℕ
key_of k = key_view k.keyed k.key

abbrev pub no_key : Key
no_key = record { keyed = 0; key = 0 }

-- of the version at a pointer; none at 0
unfoldable pub version_key : List ℕ → ℕ → Key
version_key versions p = cond (eqb p 0) no_key (record { keyed = fields.keyed_of versions p; key = fields.key_of versions p })

-- the head version's; once installed, that of the version after the head
unfoldable pub old_key_of : List ℕ → List ℕ → Bool → ℕ → Key
old_key_of rows versions installed r = version_key versions (cond installed (fields.next_of versions (fields.head_of rows r)) (fields.head_of rows r))

abbrev pub written_at : List ℕ → ℕ → StdOption ℕ → Key
written_at lists slot (Some i) = record { keyed = (write_at lists slot i).keyed; key = (write_at lists slot i).key }
written_at lists slot None = no_key

-- of the row's last pending write
unfoldable pub new_key_of : List ℕ → ℕ → ℕ → ℕ → Key
new_key_of lists slot n r = written_at lists slot (latest_pending lists slot n r)

-- a pending row gets a version where its head is live or its last write is a put
unfoldable pub gets_version_of : List ℕ → List ℕ → List ℕ → ℕ → ℕ → ℕ → Bool
gets_version_of rows versions lists slot n r = not (eqb (old_key_of rows versions false r).keyed 0) || not (eqb (new_key_of lists slot n r).keyed 0)

-- a row headed by a version of this number
unfoldable pub headed_by : List ℕ → List ℕ → ℕ → ℕ → Bool
headed_by rows versions n r = leb 1 (fields.head_of rows r) && eqb (fields.xmin_of versions (fields.head_of rows r)) n

-- the writes are installed from this phase on
abbrev pub is_installed : Phase → Bool
is_installed p = leb phase_installed (rank (phase_view p))

-- the old and the new key of a row that a transaction writes
unfoldable pub keys_of : List ℕ → List ℕ → List ℕ → Transaction → ℕ → Keys
keys_of rows versions lists t r = record { old = old_key_of rows versions (is_installed t.phase) r; new = new_key_of lists t.slot t.writes_n r }

abbrev pub no_keys : Keys
no_keys = record { old = no_key; new = no_key }

abbrev pub same_keys : Keys → Bool
same_keys k = same_key (key_of k.old) (key_of k.new)

-- none twice where the transaction made no version or old and new key are the same
unfoldable pub changed_keys : List ℕ → List ℕ → List ℕ → Transaction → ℕ → Keys
changed_keys rows versions lists t r = cond (not (headed_by rows versions t.number r)) no_keys
    (cond (same_keys (keys_of rows versions lists t r)) no_keys (keys_of rows versions lists t r))
