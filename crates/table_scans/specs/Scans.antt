-- Places in lists of numbers, and the four scans as such.
use Rattle.std.specs.Prelude.{ℕ, zero, suc, min, List, [], ◌∷◌, map, Bool, cond, length, get_or, take, eqb, Option, Some, None}
use Rattle.base_limits.specs.Limits.{most_index_reads, most_writes, most_records}
use Rattle.base_lists.specs.Lists.{member}
use Rattle.table.specs.declared.lists.IndexRead.{IndexRead}
use Rattle.table.specs.declared.lists.Write.{Write}
use Rattle.table.specs.declared.lists.ReadRecord.{ReadRecord}
use Rattle.table.specs.Lists.{reads_of, writes_of, records_of}

-- the first place of x, counted from k
unfoldable pub first_from : ℕ → List ℕ → ℕ → Option ℕ
first_from k [] x = None
first_from k (y ∷ ys) x = cond (eqb y x) (Some k) (first_from (suc k) ys x)

abbrev pub first_place : List ℕ → ℕ → Option ℕ
first_place l x = first_from 0 l x

-- the last place of x below n
unfoldable pub last_below : List ℕ → ℕ → ℕ → Option ℕ
last_below l x zero = None
last_below l x (suc n) = cond (eqb (get_or l n 0) x) (Some n) (last_below l x n)

abbrev pub last_place : List ℕ → ℕ → Option ℕ
last_place l x = last_below l x (length l)

-- the rows of pending writes, the pointers of read records, the buckets of index reads
abbrev pub rows_written : List Write → List ℕ
rows_written ws = map (λ w. w.row) ws

abbrev pub pointers : List ReadRecord → List ℕ
pointers rs = map (λ r. r.ptr) rs

abbrev pub buckets_read : List IndexRead → List ℕ
buckets_read rs = map (λ r. r.bucket) rs

-- x is one of the first n active numbers; an n past the end acts as the end
abbrev pub is_active : List ℕ → ℕ → ℕ → Bool
is_active active n x = member x (take n active)

-- the last of the slot's first n pending writes with this row
abbrev pub latest_pending : List ℕ → ℕ → ℕ → ℕ → Option ℕ
latest_pending lists slot n row = last_place (rows_written (writes_of lists slot (min n most_writes))) row

-- whether one of the slot's first n read records has this pointer
abbrev pub already_recorded : List ℕ → ℕ → ℕ → ℕ → Bool
already_recorded lists slot n ptr = member ptr (pointers (records_of lists slot (min n most_records)))

-- the first of the slot's first n index reads with this bucket
abbrev pub read_prefix : List ℕ → ℕ → ℕ → ℕ → Option ℕ
read_prefix lists slot n bucket = first_place (buckets_read (reads_of lists slot (min n most_index_reads))) bucket
