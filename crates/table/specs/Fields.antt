-- The fields of the three tables: what stands at which word of an entry.
use Rattle.std.specs.Prelude.{ℕ, List}
use Rattle.table.specs.Words.{field, set_field, set_fields, clear_field, clear_fields, clear_every}

-- a row, from 0 up
abbrev pub row_words : ℕ
row_words = 6

-- the newest version's pointer, 0 for none
abbrev pub head_of : List ℕ → ℕ → ℕ
head_of = field row_words 0

abbrev pub set_head : List ℕ → ℕ → ℕ → List ℕ
set_head = set_field row_words 0

-- 0 or the number of the transaction that claimed the row
abbrev pub claim_of : List ℕ → ℕ → ℕ
claim_of = field row_words 1

abbrev pub set_claim : List ℕ → ℕ → ℕ → List ℕ
set_claim = set_field row_words 1

-- of every row of a list
abbrev pub set_claims : List ℕ → ℕ → List ℕ → List ℕ
set_claims = set_fields row_words 1

-- 0 where it was this number: of one row, of every row of a list, of every row below a count
abbrev pub unclaimed : List ℕ → ℕ → ℕ → List ℕ
unclaimed = clear_field row_words 1

abbrev pub clear_claims : List ℕ → ℕ → List ℕ → List ℕ
clear_claims = clear_fields row_words 1

abbrev pub unclaim_every : List ℕ → ℕ → ℕ → List ℕ
unclaim_every = clear_every row_words 1

-- 0 where the row has no posting
abbrev pub posted_of : List ℕ → ℕ → ℕ
posted_of = field row_words 2

abbrev pub set_posted : List ℕ → ℕ → ℕ → List ℕ
set_posted = set_field row_words 2

-- the key of its posting
abbrev pub posted_key_of : List ℕ → ℕ → ℕ
posted_key_of = field row_words 3

abbrev pub set_posted_key : List ℕ → ℕ → ℕ → List ℕ
set_posted_key = set_field row_words 3

-- the row behind it in the list of its posting's key, by its number and 1; 0 for none
abbrev pub later_of : List ℕ → ℕ → ℕ
later_of = field row_words 4

abbrev pub set_later : List ℕ → ℕ → ℕ → List ℕ
set_later = set_field row_words 4

-- the first row of the list of this row's number, by its number and 1; 0 for none
abbrev pub first_of : List ℕ → ℕ → ℕ
first_of = field row_words 5

abbrev pub set_first : List ℕ → ℕ → ℕ → List ℕ
set_first = set_field row_words 5

-- a version, at its pointer: entry 0 is not used
abbrev pub version_words : ℕ
version_words = 6

-- the number that made the version
abbrev pub xmin_of : List ℕ → ℕ → ℕ
xmin_of = field version_words 0

abbrev pub set_xmin : List ℕ → ℕ → ℕ → List ℕ
set_xmin = set_field version_words 0

-- 0 or the number that ended it
abbrev pub xmax_of : List ℕ → ℕ → ℕ
xmax_of = field version_words 1

abbrev pub set_xmax : List ℕ → ℕ → ℕ → List ℕ
set_xmax = set_field version_words 1

-- the pointer of the version before it, 0 for none
abbrev pub next_of : List ℕ → ℕ → ℕ
next_of = field version_words 2

abbrev pub set_next : List ℕ → ℕ → ℕ → List ℕ
set_next = set_field version_words 2

-- 0 where the version is erased: it has no key
abbrev pub keyed_of : List ℕ → ℕ → ℕ
keyed_of = field version_words 3

abbrev pub set_keyed : List ℕ → ℕ → ℕ → List ℕ
set_keyed = set_field version_words 3

-- its key
abbrev pub key_of : List ℕ → ℕ → ℕ
key_of = field version_words 4

abbrev pub set_key : List ℕ → ℕ → ℕ → List ℕ
set_key = set_field version_words 4

-- its payload
abbrev pub payload_of : List ℕ → ℕ → ℕ
payload_of = field version_words 5

abbrev pub set_payload : List ℕ → ℕ → ℕ → List ℕ
set_payload = set_field version_words 5

-- a bucket, from 0 up
abbrev pub bucket_words : ℕ
bucket_words = 2

-- the stamp of the last change to the bucket's postings
abbrev pub stamp_of : List ℕ → ℕ → ℕ
stamp_of = field bucket_words 0

abbrev pub set_stamp : List ℕ → ℕ → ℕ → List ℕ
set_stamp = set_field bucket_words 0

-- of every bucket of a list
abbrev pub set_stamps : List ℕ → ℕ → List ℕ → List ℕ
set_stamps = set_fields bucket_words 0

-- 0 or the number of the transaction that holds the bucket
abbrev pub holder_of : List ℕ → ℕ → ℕ
holder_of = field bucket_words 1

abbrev pub set_holder : List ℕ → ℕ → ℕ → List ℕ
set_holder = set_field bucket_words 1

-- of every bucket of a list
abbrev pub set_holders : List ℕ → ℕ → List ℕ → List ℕ
set_holders = set_fields bucket_words 1

-- 0 where it was this number: of one bucket, of every bucket of a list, of every bucket below a count
abbrev pub released : List ℕ → ℕ → ℕ → List ℕ
released = clear_field bucket_words 1

abbrev pub clear_holders : List ℕ → ℕ → List ℕ → List ℕ
clear_holders = clear_fields bucket_words 1

abbrev pub release_every : List ℕ → ℕ → ℕ → List ℕ
release_every = clear_every bucket_words 1
