-- `table`: wrong bodies of its accessors and setters, by laws over the words of an entry, the field and the place.
-- Assumes nothing.
use Prim.Native.Nat.{ℕ, zero, suc, ◌+◌, ◌*◌, ◌≤◌, ◌<◌, min}
use mathlib.Core.Path.{◌≡◌, refl, ap}
use mathlib.Core.Logic.{◌≢◌}
use mathlib.Core.List.{List, [], ◌∷◌}
use native.Mathlib.Omega.{arith}
use lib.ListN.{length, take, get_or, set}
use lib.Seq.{get_or-set_same, get_or-set_other}
use Rattle.table.specs.Words.{field, set_field}
use Rattle.table.specs.Fields.{set_stamps, set_holders}
use Rattle.table.specs.Regions.{words}
use Rattle.table.specs.Lists.{Kind, reads, writes, records, candidates, place_of, read_at, write_at, record_at, stored}
use Rattle.table.specs.declared.lists.IndexRead.{IndexRead}
use Rattle.table.specs.declared.lists.Write.{Write}
use Rattle.table.specs.declared.lists.ReadRecord.{ReadRecord}
use Rattle.table.proofs.Spans.{words-at}
use Rattle.txn_needs.specs.Needs.{front}
use Rattle.tightness.specs.Wrong.{Excludes}
use Rattle.tightness.proofs.Apart.{apart, either_way, itself}
use Rattle.tightness.proofs.Computes.{computes}
use Rattle.tightness.proofs.Small.{starting, room_for}

-- words that are 0 up to the last, which is 1
only : ℕ → List ℕ
only zero = 1 ∷ []
only (suc n) = 0 ∷ only n

there : (n : ℕ) → get_or (only n) n 0 ≡ 1
unfolding only
there zero = refl
there (suc n) = there n

elsewhere : (n m : ℕ) → n ≢ m → get_or (only n) m 0 ≡ 0
unfolding only
elsewhere zero zero d = absurd (d refl)
elsewhere zero (suc m) d = refl
elsewhere (suc n) zero d = refl
elsewhere (suc n) (suc m) d = elsewhere n m (λ e. d (ap suc e))

within : (n : ℕ) → n < length (only n)
unfolding only
within zero = omega arith
within (suc n) = omega (arith, within n)

-- two places hold different words
places-differ : (n m : ℕ) → n ≢ m → get_or (only n) n 0 ≢ get_or (only n) m 0
places-differ n m d e = absurd (omega (arith, e, there n, elsewhere n m d))

-- a 0 stored where the 1 stands is read there; it changes the words, and no store elsewhere does the same
stored_there : (n : ℕ) → get_or (set (only n) n 0) n 0 ≡ 0
stored_there n = get_or-set_same (only n) n 0 0 (within n)

store-is-something : (n : ℕ) → set (only n) n 0 ≢ only n
store-is-something n e = absurd (omega (arith, ap (λ xs. get_or xs n 0) e, stored_there n, there n))

stores-differ : (n m : ℕ) → n ≢ m → set (only n) n 0 ≢ set (only n) m 0
stores-differ n m d e = absurd (omega (arith, ap (λ xs. get_or xs n 0) e, stored_there n, get_or-set_other (only n) m n 0 0 d, there n))

-- `word`: the word behind it
pub word_next : Excludes {A = List ℕ × ℕ} (λ (xs, at). get_or xs at 0) (λ (xs, at). get_or xs (at + 1) 0)
word_next = record { input = (only 0, 0); differ = places-differ 0 1 (omega arith) }

-- `word`: past the end the first word, not 0
pub word-past-end : Excludes {A = List ℕ × ℕ} (λ (xs, at). get_or xs at 0) (λ (xs, at). get_or xs at (get_or xs 0 0))
word-past-end = apart (1 ∷ [], 1) itself refl

-- `set_word`: nothing is stored
pub set-word-nothing : Excludes {A = List ℕ × ℕ × ℕ} (λ (xs, at, v). set xs at v) (λ (xs, at, v). xs)
set-word-nothing = record { input = (only 0, 0, 0); differ = store-is-something 0 }

-- `set_word`: stored at the word behind it
pub set-word-next : Excludes {A = List ℕ × ℕ × ℕ} (λ (xs, at, v). set xs at v) (λ (xs, at, v). set xs (at + 1) v)
set-word-next = record { input = (only 0, 0, 0); differ = stores-differ 0 1 (omega arith) }

-- Field k of a table of w words an entry:
-- `head_at`, `claim_at`, `posted_at`, `posted_key_at`, `later_at`, `first_at` (w 6, k 0 to 5), `xmin_at`, `xmax_at`, `next_at`, `keyed_at`, `key_at`,
-- `payload_at` (w 6, k 0 to 5), `stamp_at`, `holder_at` (w 2, k 0 and 1), and the setter of each.
module _ (w k : ℕ) where
  -- an accessor reads another field
  pub field-other-field : (m : ℕ) → k ≢ m → Excludes {A = List ℕ × ℕ} (λ (xs, i). field w k xs i) (λ (xs, i). field w m xs i)
  unfolding field
  field-other-field m d = record { input = (only (w * 0 + k), 0); differ = places-differ (w * 0 + k) (w * 0 + m) (omega (arith, d)) }

  -- an accessor reads the next entry
  pub field-next-entry : 1 ≤ w → Excludes {A = List ℕ × ℕ} (λ (xs, i). field w k xs i) (λ (xs, i). field w k xs (i + 1))
  unfolding field
  field-next-entry h = record { input = (only (w * 0 + k), 0); differ = places-differ (w * 0 + k) (w * 1 + k) (omega arith) }

  -- a setter writes another field
  pub set-field-other-field : (m : ℕ) → k ≢ m → Excludes {A = List ℕ × ℕ × ℕ} (λ (xs, i, v). set_field w k xs i v) (λ (xs, i, v). set_field w m xs i v)
  unfolding set_field
  set-field-other-field m d = record { input = (only (w * 0 + k), 0, 0); differ = stores-differ (w * 0 + k) (w * 0 + m) (omega (arith, d)) }

  -- a setter writes the next entry
  pub set-field-next-entry : 1 ≤ w → Excludes {A = List ℕ × ℕ × ℕ} (λ (xs, i, v). set_field w k xs i v) (λ (xs, i, v). set_field w k xs (i + 1) v)
  unfolding set_field
  set-field-next-entry h = record { input = (only (w * 0 + k), 0, 0); differ = stores-differ (w * 0 + k) (w * 1 + k) (omega arith) }

  -- a setter writes nothing
  pub set-field-nothing : Excludes {A = List ℕ × ℕ × ℕ} (λ (xs, i, v). set_field w k xs i v) (λ (xs, i, v). xs)
  unfolding set_field
  set-field-nothing = record { input = (only (w * 0 + k), 0, 0); differ = store-is-something (w * 0 + k) }

-- Word j of an entry of a slot's list:
-- `read_bucket_at`, `read_stamp_at` (`reads`, j 0 and 1), `write_row_at`, `write_keyed_at`, `write_key_at`, `write_payload_at` (`writes`, j 0 to 3),
-- `record_row_at`, `record_ptr_at`, `record_xmin_at` (`records`, j 0 to 2), `candidate_at` (`candidates`, j 0).
module _ (k : Kind) (j : ℕ) (h : j < k.w) where
  abbrev word_of : List ℕ × ℕ × ℕ → ℕ
  word_of = λ (xs, s, i). get_or (words k.w (place_of k s i) xs) j 0

  -- the words at two places differ on these lists
  words-differ : (w a m : ℕ) → m < w → place_of k 0 0 + j ≢ a + m
      → get_or (words k.w (place_of k 0 0) (only (place_of k 0 0 + j))) j 0 ≢ get_or (words w a (only (place_of k 0 0 + j))) m 0
  words-differ w a m l d =
      rw (words-at k.w (place_of k 0 0) (only (place_of k 0 0 + j)) j h, words-at w a (only (place_of k 0 0 + j)) m l)
      (places-differ (place_of k 0 0 + j) (a + m) d)

  -- another word of the entry
  pub entry-other-word : (m : ℕ) → m < k.w → j ≢ m → Excludes word_of (λ (xs, s, i). get_or (words k.w (place_of k s i) xs) m 0)
  entry-other-word m l d = record { input = (only (place_of k 0 0 + j), 0, 0); differ = words-differ k.w (place_of k 0 0) m l (omega (arith, d)) }

  -- the next entry
  pub entry_next : Excludes word_of (λ (xs, s, i). get_or (words k.w (place_of k s (i + 1)) xs) j 0)
  entry_next = record { input = (only (place_of k 0 0 + j), 0, 0); differ = words-differ k.w (place_of k 0 1) j h (omega arith) }

  -- the next slot
  pub entry-next-slot : Excludes word_of (λ (xs, s, i). get_or (words k.w (place_of k (s + 1) i) xs) j 0)
  entry-next-slot = record { input = (only (place_of k 0 0 + j), 0, 0); differ = words-differ k.w (place_of k 1 0) j h (omega arith) }

-- what the contracts of `put_read`, `put_write`, `put_record` and `put_candidate` ask for
abbrev put_read : List ℕ × ℕ × ℕ × ℕ × ℕ → List ℕ
put_read (xs, s, i, bucket, stamp) = stored reads xs s i (bucket ∷ stamp ∷ [])

abbrev put_write : List ℕ × ℕ × ℕ × ℕ × ℕ × ℕ × ℕ → List ℕ
put_write (xs, s, i, row, keyed, key, payload) = stored writes xs s i (row ∷ keyed ∷ key ∷ payload ∷ [])

abbrev put_record : List ℕ × ℕ × ℕ × ℕ × ℕ × ℕ → List ℕ
put_record (xs, s, i, row, ptr, xmin) = stored records xs s i (row ∷ ptr ∷ xmin ∷ [])

abbrev put_candidate : List ℕ × ℕ × ℕ × ℕ → List ℕ
put_candidate (xs, s, i, row) = stored candidates xs s i (row ∷ [])

-- the word at which a list of slot 0 starts
abbrev first_word : Kind → List ℕ → ℕ
first_word k xs = get_or xs k.off 0

-- `read-at`: bucket and stamp change places
pub read-at-swapped : Excludes {A = List ℕ × ℕ × ℕ} (λ (xs, s, i). read_at xs s i)
    (λ (xs, s, i). record { bucket = (read_at xs s i).stamp; stamp = (read_at xs s i).bucket })
unfolding computes
read-at-swapped = apart (1 ∷ 2 ∷ [], 0, 0) (λ (r : IndexRead). r.bucket) refl

-- `read-at`: the stamp of the next entry
pub read-at-mixed : Excludes {A = List ℕ × ℕ × ℕ} (λ (xs, s, i). read_at xs s i)
    (λ (xs, s, i). record { bucket = (read_at xs s i).bucket; stamp = (read_at xs s (i + 1)).stamp })
unfolding computes
read-at-mixed = apart (1 ∷ 2 ∷ [], 0, 0) (λ (r : IndexRead). r.stamp) refl

-- `put_read`: bucket and stamp change places
pub put-read-swapped : Excludes put_read (λ (xs, s, i, bucket, stamp). put_read (xs, s, i, stamp, bucket))
put-read-swapped = apart (room_for reads, 0, 0, 1, 2) (first_word reads) refl

-- `put_read`: stored in the next slot
pub put-read-next-slot : Excludes put_read (λ (xs, s, i, bucket, stamp). put_read (xs, s + 1, i, bucket, stamp))
put-read-next-slot = apart (room_for reads, 0, 0, 1, 2) (first_word reads) refl

-- `write_at`: key and payload change places
pub write-at-swapped : Excludes {A = List ℕ × ℕ × ℕ} (λ (xs, s, i). write_at xs s i)
    (λ (xs, s, i). record { row = (write_at xs s i).row; keyed = (write_at xs s i).keyed; key = (write_at xs s i).payload; payload = (write_at xs s i).key })
unfolding computes
write-at-swapped = apart (starting writes (1 ∷ 1 ∷ 2 ∷ 3 ∷ []), 0, 0) (λ (w : Write). w.key) refl

-- `write_at`: every write has a key, an erase too
pub write-at-keyed : Excludes {A = List ℕ × ℕ × ℕ} (λ (xs, s, i). write_at xs s i)
    (λ (xs, s, i). record { row = (write_at xs s i).row; keyed = 1; key = (write_at xs s i).key; payload = (write_at xs s i).payload })
unfolding computes
write-at-keyed = apart (starting writes (1 ∷ 0 ∷ 0 ∷ 0 ∷ []), 0, 0) (λ (w : Write). w.keyed) refl

-- `put_write`: row and key change places
pub put-write-swapped : Excludes put_write (λ (xs, s, i, row, keyed, key, payload). put_write (xs, s, i, key, keyed, row, payload))
put-write-swapped = apart (room_for writes, 0, 0, 1, 1, 2, 3) (first_word writes) refl

-- `put_write`: stored where the index reads stand
pub put-write-other-list : Excludes put_write (λ (xs, s, i, row, keyed, key, payload). stored reads xs s i (row ∷ keyed ∷ key ∷ payload ∷ []))
put-write-other-list = apart (room_for writes, 0, 0, 1, 1, 2, 3) (first_word writes) refl

-- `record_at`: row and pointer change places
pub record-at-swapped : Excludes {A = List ℕ × ℕ × ℕ} (λ (xs, s, i). record_at xs s i)
    (λ (xs, s, i). record { row = (record_at xs s i).ptr; ptr = (record_at xs s i).row; xmin = (record_at xs s i).xmin })
unfolding computes
record-at-swapped = apart (starting records (1 ∷ 2 ∷ 3 ∷ []), 0, 0) (λ (r : ReadRecord). r.row) refl

-- `record_at`: the pointer for the xmin
pub record-at-other-xmin : Excludes {A = List ℕ × ℕ × ℕ} (λ (xs, s, i). record_at xs s i)
    (λ (xs, s, i). record { row = (record_at xs s i).row; ptr = (record_at xs s i).ptr; xmin = (record_at xs s i).ptr })
unfolding computes
record-at-other-xmin = apart (starting records (1 ∷ 2 ∷ 3 ∷ []), 0, 0) (λ (r : ReadRecord). r.xmin) refl

-- `put_record`: row and pointer change places
pub put-record-swapped : Excludes put_record (λ (xs, s, i, row, ptr, xmin). put_record (xs, s, i, ptr, row, xmin))
put-record-swapped = apart (room_for records, 0, 0, 1, 2, 3) (first_word records) refl

-- `put_record`: the xmin is left out
pub put-record-cut : Excludes put_record (λ (xs, s, i, row, ptr, xmin). stored records xs s i (row ∷ ptr ∷ []))
put-record-cut = apart (room_for records, 0, 0, 1, 2, 3) (λ xs. get_or xs (records.off + 2) 0) refl

-- `put_candidate`: nothing is stored
pub put-candidate-nothing : Excludes put_candidate (λ (xs, s, i, row). xs)
put-candidate-nothing = apart (room_for candidates, 0, 0, 1) (first_word candidates) refl

-- `put_candidate`: its place is stored, not the row
pub put-candidate-place : Excludes put_candidate (λ (xs, s, i, row). put_candidate (xs, s, i, i))
put-candidate-place = apart (room_for candidates, 0, 0, 1) (first_word candidates) refl

-- what the contracts of `Listing::as_slice` (`txn_needs`), by which callers cut a list, and then of `set_stamps` or `set_holders` ask for together,
-- of the first n words of the list
abbrev sets_stamps : List ℕ × List ℕ × ℕ × ℕ → List ℕ
sets_stamps (buckets, list, n, stamp) = set_stamps buckets stamp (front (record { out = list; n = n }))

abbrev sets_holders : List ℕ × List ℕ × ℕ × ℕ → List ℕ
sets_holders (buckets, list, n, number) = set_holders buckets number (front (record { out = list; n = n }))

-- what the contracts of `set_stamps` and `set_holders` ask for by themselves, of a whole slice
abbrev stamps_slice : List ℕ × List ℕ × ℕ → List ℕ
stamps_slice (buckets, list, stamp) = set_stamps buckets stamp list

abbrev holds_slice : List ℕ × List ℕ × ℕ → List ℕ
holds_slice (buckets, list, number) = set_holders buckets number list

-- two buckets, 0 free and 1 held by 5, and what stands in the first
abbrev pub two : List ℕ
two = 0 ∷ 0 ∷ 0 ∷ 5 ∷ []

abbrev stamp₀ : List ℕ → ℕ
stamp₀ xs = get_or xs 0 0

abbrev holder₀ : List ℕ → ℕ
holder₀ xs = get_or xs 1 0

-- `set_holders`: the number becomes the stamp
pub set-holders-stamps : Excludes sets_holders sets_stamps
unfolding computes
set-holders-stamps = apart (two, 0 ∷ [], 1, 6) holder₀ refl

-- `set_holders`: buckets behind the first n too
pub set-holders-behind : Excludes sets_holders (λ (buckets, list, n, number). set_holders buckets number list)
unfolding computes
set-holders-behind = apart (two, 0 ∷ [], 0, 6) holder₀ refl

-- `set_stamps`: the stamp becomes the holder
pub set-stamps-holds : Excludes sets_stamps sets_holders
set-stamps-holds = either_way set-holders-stamps

-- `set_stamps`: only the first bucket
pub set-stamps-first : Excludes sets_stamps (λ (buckets, list, n, stamp). sets_stamps (buckets, list, min n 1, stamp))
unfolding computes
set-stamps-first = apart (two, 1 ∷ 0 ∷ [], 2, 6) stamp₀ refl

-- `set_holders` of a slice: the number becomes the stamp
pub set-holders-slice-stamps : Excludes holds_slice stamps_slice
unfolding computes
set-holders-slice-stamps = apart (two, 0 ∷ [], 6) holder₀ refl

-- `set_holders` of a slice: only the first bucket
pub set-holders-slice-first : Excludes holds_slice (λ (buckets, list, number). set_holders buckets number (take 1 list))
unfolding computes
set-holders-slice-first = apart (two, 1 ∷ 0 ∷ [], 6) holder₀ refl

-- `set_stamps` of a slice: the stamp becomes the holder
pub set-stamps-slice-holds : Excludes stamps_slice holds_slice
set-stamps-slice-holds = either_way set-holders-slice-stamps

-- `set_stamps` of a slice: only the first bucket
pub set-stamps-slice-first : Excludes stamps_slice (λ (buckets, list, stamp). set_stamps buckets stamp (take 1 list))
unfolding computes
set-stamps-slice-first = apart (two, 1 ∷ 0 ∷ [], 6) stamp₀ refl
