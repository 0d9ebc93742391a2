-- Upstream's own definitions, with their meaning, over the model's store: a version is its pointer in `Chains`, a transaction is `Txn`,
-- a pending write carries its key where upstream has `new_ptr`, and a history of events has the newest first, so that what came before is its tail.
use Rattle.std.specs.Prelude.{ℕ, zero, suc, ◌≡◌, Bool, false, cond, not, ◌&&◌, ◌||◌, List, [], ◌∷◌, ◌++◌, eqb, ltb, leb, length, get_or}
use Rattle.std.proofs.Math.Option.{Option, none, some}
use Rattle.base_lists.specs.Lists.{member, some_of, all_of}
use Rattle.base_lists.specs.Table.{update}
use Rattle.model.specs.Store.{Sizes, Chains, Index, IndexRead, Write, ReadRecord, Txn, same_key}
use Rattle.model.specs.Seeing.{known}
use Rattle.model.specs.Steps.{key_buckets}

-- creator_visible: the own number, a number below the snapshot's xmin, or one below its xmax that was not active
unfoldable pub creator_visible : Txn → ℕ → Bool
creator_visible x n = eqb n x.number || ltb n x.snapshot.xmin || (ltb n x.snapshot.xmax && not (member n x.snapshot.active))

-- visible: made by the own number, or made visibly and not ended visibly
unfoldable pub row_visible : Chains → Txn → ℕ → Bool
row_visible c x p =
    eqb (c.xmin p) x.number
    || (creator_visible x (c.xmin p)
    && (eqb (c.xmax p) 0 || (not (eqb (c.xmax p) x.number) && (leb x.snapshot.xmax (c.xmax p) || member (c.xmax p) x.snapshot.active))))

-- first_visible: from a pointer down its chain; each next is below its own pointer, so as many steps as the pointer are enough
unfoldable pub first_row : Chains → Txn → ℕ → ℕ → Option ℕ
first_row c x zero p = none
first_row c x (suc steps) p = cond (known c p) (cond (row_visible c x p) (some p) (first_row c x steps (c.next p))) none

-- upstream answers a pointer or none where ours is a pointer or 0
unfoldable pub pointer : ℕ → Option ℕ
pointer zero = none
pointer (suc p) = some (suc p)

-- last_write: among the first n writes, from the last one back
unfoldable pub last_of : List Write → ℕ → ℕ → Option Write
last_of ws r zero = none
last_of ws r (suc n) = let w = get_or ws n (record { row = 0; key = none; payload = 0 }) in cond (eqb w.row r) (some w) (last_of ws r n)

-- selected_value: the key of the own last write, else that of the first visible version, if there is one
unfoldable pub key_of : Chains → Option ℕ → Option (Option ℕ)
key_of c none = none
key_of c (some p) = some (c.key p)

unfoldable pub selected : Chains → Txn → ℕ → Option Write → Option (Option ℕ)
selected c x r none = key_of c (first_row c x (c.head r) (c.head r))
selected c x r (some w) = some w.key

abbrev pub selected_value : Chains → Txn → ℕ → Option (Option ℕ)
selected_value c x r = selected c x r (last_of x.writes r (length x.writes))

-- matches_row, with equality on a key for the predicate
unfoldable pub holds_key : ℕ → Option (Option ℕ) → Bool
holds_key k none = false
holds_key k (some key) = same_key key (some k)

unfoldable pub matches_row : ℕ → Chains → Txn → ℕ → ℕ → Bool
matches_row capacity c x k r = ltb r capacity && holds_key k (selected_value c x r)

-- recording: a record is pushed unless its pointer is among the earlier ones
unfoldable pub recording_of : List ReadRecord → ℕ → ℕ → ℕ → List ReadRecord
recording_of earlier row ptr xmin =
    cond (some_of (λ (q : ReadRecord). eqb q.ptr ptr) earlier) earlier (earlier ++ (record { row = row; ptr = ptr; xmin = xmin } ∷ []))

-- read_conflict, reads_conflict
unfoldable pub read_conflict : Chains → Txn → ReadRecord → Bool
read_conflict c x q =
    not (eqb (c.xmin q.ptr) q.xmin)
    || (not (eqb (c.xmax q.ptr) 0) && not (eqb (c.xmax q.ptr) x.number)
    && (leb x.snapshot.xmax (c.xmax q.ptr) || member (c.xmax q.ptr) x.snapshot.active))

unfoldable pub reads_conflict : Chains → Txn → Bool
reads_conflict c x = some_of (read_conflict c x) x.records

-- read_good, reads_good: there is one index and every bucket has a stamp; index_read_conflict is the mark, or a read that is not good
unfoldable pub read_good : Index → ℕ → IndexRead → Bool
read_good i n r = eqb (i.stamp r.bucket) r.stamp && ltb (i.stamp r.bucket) n

unfoldable pub reads_good : Index → Txn → Bool
reads_good i x = all_of (read_good i x.number) x.reads

unfoldable pub index_read_conflict : Index → Txn → Bool
index_read_conflict i x = x.marked || not (reads_good i x)

-- an event: a row's key before and after, by whom, and the stamp
pub record Event : Type 0 where
  pub row : ℕ
  pub before : Option ℕ
  pub after : Option ℕ
  pub creator : ℕ
  pub stamp : ℕ

-- postings are a set of (key, row)
abbrev pub Postings : Type 0
Postings = ℕ → ℕ → Bool

-- postings: of the rows that have a key
unfoldable pub postings_of : (ℕ → Option ℕ) → Postings
postings_of rows k r = same_key (rows r) (some k)

-- posting_step: the pair before is removed, the pair after is inserted
unfoldable pub remove : Postings → Option ℕ → ℕ → Postings
remove ps none row = ps
remove ps (some key) row = λ k r. ps k r && not (eqb k key && eqb r row)

unfoldable pub insert : Postings → Option ℕ → ℕ → Postings
insert ps none row = ps
insert ps (some key) row = λ k r. ps k r || (eqb k key && eqb r row)

abbrev pub posting_step : Postings → Event → Postings
posting_step ps e = insert (remove ps e.before e.row) e.after e.row

-- posting_replay
unfoldable pub posting_replay : Postings → List Event → Postings
posting_replay ps [] = ps
posting_replay ps (e ∷ older) = posting_step (posting_replay ps older) e

-- live_rows: the key of each row after all events; snapshot_rows: after those whose creator is visible
unfoldable pub live_rows : (ℕ → Option ℕ) → List Event → ℕ → Option ℕ
live_rows rows [] = rows
live_rows rows (e ∷ older) = update (live_rows rows older) e.row e.after

unfoldable pub snapshot_rows : (ℕ → Option ℕ) → List Event → Txn → ℕ → Option ℕ
snapshot_rows rows [] x = rows
snapshot_rows rows (e ∷ older) x = cond (creator_visible x e.creator) (update (snapshot_rows rows older x) e.row e.after) (snapshot_rows rows older x)

-- coherent: each event's key before is the row's live key then
abbrev pub Coherent : (ℕ → Option ℕ) → List Event → Type 0
Coherent rows [] = Unit {0}
Coherent rows (e ∷ older) = (e.before ≡ live_rows rows older e.row) × Coherent rows older

-- event_buckets, and stamp_at: the stamp of the newest event of the bucket, else the one at first
abbrev pub event_buckets : Sizes → Event → List ℕ
event_buckets z e = key_buckets z e.before ++ key_buckets z e.after

unfoldable pub stamp_at : Sizes → (ℕ → ℕ) → List Event → ℕ → ℕ
stamp_at z stamps [] b = stamps b
stamp_at z stamps (e ∷ older) b = cond (member b (event_buckets z e)) e.stamp (stamp_at z stamps older b)

-- raw_candidates, with equality on a key for the predicate
abbrev pub raw_candidates : Postings → ℕ → ℕ → Bool
raw_candidates ps k r = ps k r
