-- Upstream's clauses over a reached store, as upstream has them: its names, the model's store.
use Rattle.std.specs.Prelude.{ℕ, ◌≤◌, ◌<◌, ◌≡◌, Bool, ◌||◌, ◌≢◌, List, [], ◌∷◌, length, get_or}
use Rattle.std.proofs.Math.Option.{Option, none, some}
use Rattle.base_lists.specs.Lists.{Among}
use Rattle.model.specs.Store.{Sizes, Chains, IndexRead, Txn, Store, same_key}
use Rattle.model.specs.Upstream.{Event, first_row, snapshot_rows, event_buckets, stamp_at}
use Rattle.model.specs.Refusals.{Step}
use Rattle.model.specs.Machine.{actor}

-- what stands past the end of a list of index reads
abbrev pub no_read : IndexRead
no_read = record { bucket = 0; stamp = 0 }

-- unique: no two index reads of one bucket (there is one index)
abbrev pub UniqueReads : List IndexRead → Type 0
UniqueReads rs = (i j : ℕ) → i < j → j < length rs → (get_or rs i no_read).bucket ≢ (get_or rs j no_read).bucket

-- no_resurrection: a number that is gone is no transaction's, holds no bucket and claims no row
pub record Gone (s : Store) (n : ℕ) : Type 0 where
  pub not_live : (j : ℕ) → (s.txns j).number ≢ n
  pub holds-none : (b : ℕ) → s.held.holder b ≢ n
  pub claims-none : (r : ℕ) → s.held.claim r ≢ n

-- environment: steps of others than n
abbrev pub Others : ℕ → List Step → Type 0
Others n [] = Unit {0}
Others n (a ∷ more) = (n ≢ actor a) × Others n more

-- affects, with equality on a key for the predicate: the event's key before or after is the key
unfoldable pub affects : ℕ → Event → Bool
affects k e = same_key e.before (some k) || same_key e.after (some k)

-- guarded_stamp_history: no bucket of an event had a later stamp than the event's (the newest event stands first)
abbrev pub GuardedStampHistory : Sizes → (ℕ → ℕ) → List Event → Type 0
GuardedStampHistory z stamps [] = Unit {0}
GuardedStampHistory z stamps (e ∷ older) = ((b : ℕ) → Among b (event_buckets z e) → stamp_at z stamps older b ≤ e.stamp) × GuardedStampHistory z stamps older

-- event_chronology: the creator is below its stamp, and one that was active when x began has a stamp above x
abbrev pub EventChronology : Txn → Event → Type 0
EventChronology x e = (e.creator < e.stamp) × (Among e.creator x.snapshot.active → x.number < e.stamp)

-- the key at a pointer that was found, none where none was
abbrev pub key_there : Chains → Option ℕ → Option ℕ
key_there c none = none
key_there c (some p) = c.key p

-- stored_snapshot_key: the key of the first visible version
abbrev pub stored_snapshot_key : Chains → Txn → ℕ → Option ℕ
stored_snapshot_key c x r = key_there c (first_row c x (c.head r) (c.head r))

-- what x sees of the row is what the events that it sees leave there
abbrev pub MapsRow : Store → Txn → List Event → ℕ → Type 0
MapsRow s x es r = stored_snapshot_key s.chains x r ≡ snapshot_rows (λ q. none) es x r

-- history_maps_snapshot: so of every row of the store
abbrev pub HistoryMapsSnapshot : Store → Txn → List Event → Type 0
HistoryMapsSnapshot s x es = (r : ℕ) → r < s.sizes.rows → MapsRow s x es r
