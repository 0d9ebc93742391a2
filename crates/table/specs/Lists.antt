-- A transaction's four lists: a slot for each live transaction, each with four lists at fixed places, one behind the other.
use Rattle.std.specs.Prelude.{ℕ, ◌+◌, ◌*◌, List, get_or}
use Rattle.std.proofs.lemmas.List.Edits.{sets}
use Rattle.base_limits.specs.Limits.{most_rows, most_live, most_index_reads, most_writes, most_records}
use Rattle.table.specs.Regions.{words, list_of}
use Rattle.table.specs.declared.lists.IndexRead.{IndexRead}
use Rattle.table.specs.declared.lists.Write.{Write}
use Rattle.table.specs.declared.lists.ReadRecord.{ReadRecord}

-- a list of a slot: where it starts in the slot, the words of an entry, how many entries it has room for
pub record Kind : Type 0 where
  pub off : ℕ
  pub w : ℕ
  pub room : ℕ

-- where the room of a list ends
abbrev pub end_of : Kind → ℕ
end_of k = k.off + k.w * k.room

-- index reads: bucket, stamp
abbrev pub reads : Kind
reads = record { off = 0; w = 2; room = most_index_reads }

-- pending writes: row, keyed (0 for an erase), key, payload
abbrev pub writes : Kind
writes = record { off = end_of reads; w = 4; room = most_writes }

-- read records: row, pointer, xmin
abbrev pub records : Kind
records = record { off = end_of writes; w = 3; room = most_records }

-- candidates: row
abbrev pub candidates : Kind
candidates = record { off = end_of records; w = 1; room = most_rows }

-- words of a slot, and of the slots of all live transactions
abbrev pub slot_words : ℕ
slot_words = end_of candidates

abbrev pub lists_words : ℕ
lists_words = most_live * slot_words

-- where a slot's list starts, and where entry i of it stands
abbrev pub start_of : Kind → ℕ → ℕ
start_of k s = slot_words * s + k.off

abbrev pub place_of : Kind → ℕ → ℕ → ℕ
place_of k s i = start_of k s + k.w * i

-- entries, each from its words
abbrev pub read_of : List ℕ → IndexRead
read_of ws = record { bucket = get_or ws 0 0; stamp = get_or ws 1 0 }

abbrev pub write_of : List ℕ → Write
write_of ws = record { row = get_or ws 0 0; keyed = get_or ws 1 0; key = get_or ws 2 0; payload = get_or ws 3 0 }

abbrev pub record_of : List ℕ → ReadRecord
record_of ws = record { row = get_or ws 0 0; ptr = get_or ws 1 0; xmin = get_or ws 2 0 }

abbrev pub candidate_of : List ℕ → ℕ
candidate_of ws = get_or ws 0 0

-- entry i of a slot's list
abbrev pub entry_at : {A : Type 0} → (List ℕ → A) → Kind → List ℕ → ℕ → ℕ → A
entry_at f k xs s i = f (words k.w (place_of k s i) xs)

abbrev pub read_at : List ℕ → ℕ → ℕ → IndexRead
read_at xs s i = entry_at read_of reads xs s i

abbrev pub write_at : List ℕ → ℕ → ℕ → Write
write_at xs s i = entry_at write_of writes xs s i

abbrev pub record_at : List ℕ → ℕ → ℕ → ReadRecord
record_at xs s i = entry_at record_of records xs s i

abbrev pub candidate_at : List ℕ → ℕ → ℕ → ℕ
candidate_at xs s i = entry_at candidate_of candidates xs s i

-- the first n entries of a slot's list
abbrev pub list_at : {A : Type 0} → (List ℕ → A) → Kind → List ℕ → ℕ → ℕ → List A
list_at f k xs s n = list_of f k.w (start_of k s) xs n

abbrev pub reads_of : List ℕ → ℕ → ℕ → List IndexRead
reads_of xs s n = list_at read_of reads xs s n

abbrev pub writes_of : List ℕ → ℕ → ℕ → List Write
writes_of xs s n = list_at write_of writes xs s n

abbrev pub records_of : List ℕ → ℕ → ℕ → List ReadRecord
records_of xs s n = list_at record_of records xs s n

abbrev pub candidates_of : List ℕ → ℕ → ℕ → List ℕ
candidates_of xs s n = list_at candidate_of candidates xs s n

-- entry i of a slot's list stored, whole; words past the end of the slice are not
abbrev pub stored : Kind → List ℕ → ℕ → ℕ → List ℕ → List ℕ
stored k xs s i vs = sets xs (place_of k s i) vs
