-- A word of a state by its name: what stands there, and the state with another word there.
use Rattle.std.specs.Prelude.{ℕ, ◌+◌, ◌*◌, ◌-◌, ◌≤◌, cond, List, ltb, length, get_or, set, Option, None, Some}
use Rattle.base_limits.specs.Limits.{most_live, most_active}
use Rattle.table.specs.Fields.{row_words, version_words, bucket_words}
use Rattle.table.specs.Lists.{Kind, reads, writes, records, candidates, place_of}
use Rattle.txn.specs.Methods.{idle_of}
use Rattle.shape.specs.declared.Machine.{Machine}
use Rattle.toruxeng.specs.declared.Store.{Store}
use Rattle.run_changes.specs.WordNames.{word_named}
use Rattle.run_changes.specs.RecordWords.{record_words, record_of, own_words, own_of}
use Rattle.run_changes.specs.declared.WordName.{WordName}
use Rattle.run_changes.specs.declared.Word.{Word}
use Rattle.run_changes.specs.declared.Word.TheVariants.{Row, Version, Bucket, Entry, Record, Own}

-- the lent tables and the machine
pub record State : Type 0 where
  pub rows : List ℕ
  pub versions : List ℕ
  pub buckets : List ℕ
  pub lists : List ℕ
  pub machine : Machine

-- of a store that a program holds
abbrev pub state_in : Store → State
state_in s = record { rows = s.rows.now; versions = s.versions.now; buckets = s.buckets.now; lists = s.lists.now; machine = s.machine }

-- the first name of a version's words, of a bucket's, of the lists', of a record's and of the machine's own
abbrev pub version_names : ℕ
version_names = row_words

abbrev pub bucket_names : ℕ
bucket_names = version_names + version_words

abbrev pub list_names : ℕ
list_names = bucket_names + bucket_words

abbrev pub record_names : ℕ
record_names = list_names + (reads.w + writes.w + records.w + candidates.w)

abbrev pub own_names : ℕ
own_names = record_names + 14

-- what a name names, by its place among all names: a word of a row, of a version, of a bucket, of the lists, of a record, or one of the machine's own
abbrev pub word_of : ℕ → Word
word_of k =
    cond (ltb k version_names) (Row k)
    (cond (ltb k bucket_names) (Version (k - version_names))
    (cond (ltb k list_names) (Bucket (k - bucket_names))
    (cond (ltb k record_names) (Entry (k - list_names))
    (cond (ltb k own_names) (Record (k - record_names)) (Own (k - own_names))))))

-- an entry of a table has few words
abbrev pub IsNarrow : Word → Type 0
IsNarrow (Row k) = k ≤ 8
IsNarrow (Version k) = k ≤ 8
IsNarrow (Bucket k) = k ≤ 8
IsNarrow (Entry k) = Unit {0}
IsNarrow (Record k) = Unit {0}
IsNarrow (Own k) = Unit {0}

-- ---- where a word stands

-- word f of entry i, below n, where an entry has w words
abbrev pub entry_place : ℕ → ℕ → ℕ → ℕ → Option ℕ
entry_place n w f i = cond (ltb i n) (Some (w * i + f)) None

-- word f of entry i of a list of the record at a place
abbrev pub list_place : Kind → ℕ → ℕ → ℕ → Option ℕ
list_place k f place i = cond (ltb place most_live) (cond (ltb i k.room) (Some (place_of k place i + f)) None) None

-- of the words of the lists, by number: two of an index read, four of a write, three of a read record, one of a candidate
unfoldable pub lists_place : ℕ → ℕ → ℕ → Option ℕ
lists_place k place i =
    cond (ltb k 2) (list_place reads k place i)
    (cond (ltb k 6) (list_place writes (k - 2) place i)
    (cond (ltb k 9) (list_place records (k - 6) place i)
    (list_place candidates 0 place i)))

-- among the words of a record: its thirteen parts, and then active number i
abbrev pub record_place : ℕ → ℕ → Option ℕ
record_place k i = cond (ltb k 13) (Some k) (cond (ltb i most_active) (Some (13 + i)) None)

-- ---- what stands there

abbrev pub seen_at : List ℕ → ℕ → Option ℕ
seen_at ws at = cond (ltb at (length ws)) (Some (get_or ws at 0)) None

-- at a place, if there is one
abbrev pub seen_in : List ℕ → Option ℕ → Option ℕ
seen_in ws None = None
seen_in ws (Some at) = seen_at ws at

-- a word of the record at a place
unfoldable pub record_seen : Machine → ℕ → ℕ → ℕ → Option ℕ
record_seen m k place i =
    cond (ltb place most_live) (seen_in (record_words (get_or m.txns place (idle_of place))) (record_place k i)) None

abbrev pub word_seen : State → Word → ℕ → ℕ → Option ℕ
word_seen s (Row k) a b = seen_in s.rows (entry_place (length s.rows) row_words k a)
word_seen s (Version k) a b = seen_in s.versions (entry_place (length s.versions) version_words k a)
word_seen s (Bucket k) a b = seen_in s.buckets (entry_place (length s.buckets) bucket_words k a)
word_seen s (Entry k) a b = seen_in s.lists (lists_place k a b)
word_seen s (Record k) a b = record_seen s.machine k a b
word_seen s (Own k) a b = seen_at (own_words s.machine) k

-- at the place of a name among all, if it is one of them
abbrev pub named_seen : State → Option ℕ → ℕ → ℕ → Option ℕ
named_seen s None a b = None
named_seen s (Some k) a b = word_seen s (word_of k) a b

-- the word of this name
abbrev pub look_of : State → WordName → Option ℕ
look_of s w = named_seen s (word_named w.name) w.a w.b

-- ---- another word there

-- at a place, if there is one
abbrev pub changed_in : List ℕ → Option ℕ → ℕ → List ℕ
changed_in ws None x = ws
changed_in ws (Some at) x = set ws at x

-- in the record at a place
unfoldable pub record_changed : Machine → ℕ → ℕ → ℕ → ℕ → Machine
record_changed m k place i x =
    cond (ltb place most_live)
    (record {
      sizes = m.sizes;
      clock = m.clock;
      used = m.used;
      txns = set m.txns place (record_of (changed_in (record_words (get_or m.txns place (idle_of place))) (record_place k i) x));
    }) m

-- of the machine's own
abbrev pub own_changed : Machine → ℕ → ℕ → Machine
own_changed m k x = own_of m.txns (set (own_words m) k x)

abbrev pub with_rows : State → List ℕ → State
with_rows s ws = record { rows = ws; versions = s.versions; buckets = s.buckets; lists = s.lists; machine = s.machine }

abbrev pub with_versions : State → List ℕ → State
with_versions s ws = record { rows = s.rows; versions = ws; buckets = s.buckets; lists = s.lists; machine = s.machine }

abbrev pub with_buckets : State → List ℕ → State
with_buckets s ws = record { rows = s.rows; versions = s.versions; buckets = ws; lists = s.lists; machine = s.machine }

abbrev pub with_lists : State → List ℕ → State
with_lists s ws = record { rows = s.rows; versions = s.versions; buckets = s.buckets; lists = ws; machine = s.machine }

abbrev pub with_machine : State → Machine → State
with_machine s m = record { rows = s.rows; versions = s.versions; buckets = s.buckets; lists = s.lists; machine = m }

abbrev pub word_changed : State → Word → ℕ → ℕ → ℕ → State
word_changed s (Row k) a b x = with_rows s (changed_in s.rows (entry_place (length s.rows) row_words k a) x)
word_changed s (Version k) a b x = with_versions s (changed_in s.versions (entry_place (length s.versions) version_words k a) x)
word_changed s (Bucket k) a b x = with_buckets s (changed_in s.buckets (entry_place (length s.buckets) bucket_words k a) x)
word_changed s (Entry k) a b x = with_lists s (changed_in s.lists (lists_place k a b) x)
word_changed s (Record k) a b x = with_machine s (record_changed s.machine k a b x)
word_changed s (Own k) a b x = with_machine s (own_changed s.machine k x)

-- at the place of a name among all, if it is one of them
abbrev pub named_changed : State → Option ℕ → ℕ → ℕ → ℕ → State
named_changed s None a b x = s
named_changed s (Some k) a b x = word_changed s (word_of k) a b x

-- the state with another word of this name
abbrev pub change_of : State → WordName → ℕ → State
change_of s w x = named_changed s (word_named w.name) w.a w.b x
