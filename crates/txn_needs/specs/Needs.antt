-- The buckets that a transaction needs, listed in lent words.
use Rattle.std.specs.Prelude.{ℕ, ◌+◌, ◌%◌, cond, List, [], ◌∷◌, ◌++◌, map, eqb, ltb, length, take, set, replicate}
use Rattle.base_lists.specs.Lists.{join}
use Rattle.table.specs.Lists.{reads_of, writes_of}
use Rattle.table.specs.declared.lists.IndexRead.{IndexRead}
use Rattle.table.specs.declared.lists.Write.{Write}
use Rattle.txn.specs.declared.Transaction.{Transaction}
use Rattle.txn_needs.specs.declared.Key.{Key}
use Rattle.txn_needs.specs.declared.Keys.{Keys}
use Rattle.txn_needs.specs.Keys.{keys_of, changed_keys}

-- the first n words of a lent list are listed
pub record Listed : Type 0 where
  pub out : List ℕ
  pub n : ℕ

-- one number more, where there is room for it
unfoldable pub push_one : Listed → ℕ → Listed
push_one st x = cond (ltb st.n (length st.out)) (record { out = set st.out st.n x; n = st.n + 1 }) st

unfoldable pub push_all : Listed → List ℕ → Listed
push_all st [] = st
push_all st (x ∷ xs) = push_all (push_one st x) xs

-- numbers listed in so many words, and what is listed
abbrev pub listed_in : ℕ → List ℕ → Listed
listed_in room xs = push_all (record { out = replicate room 0; n = 0 }) xs

abbrev pub front : Listed → List ℕ
front l = take l.n l.out

-- the bucket of a key; no key needs none
unfoldable pub buckets_for : ℕ → Key → List ℕ
buckets_for bucket_count k = cond (eqb k.keyed 0) [] ((k.key % bucket_count) ∷ [])

-- the buckets of a row's old and new key
unfoldable pub keys_need : ℕ → Keys → List ℕ
keys_need bucket_count k = buckets_for bucket_count k.old ++ buckets_for bucket_count k.new

-- the buckets of the index reads
abbrev pub reads_need : List ℕ → Transaction → List ℕ
reads_need lists t = map (λ (r : IndexRead). r.bucket) (reads_of lists t.slot t.reads_n)

-- the rows of the first n pending writes of a slot, and of a transaction's
abbrev pub rows_written : List ℕ → ℕ → ℕ → List ℕ
rows_written lists slot n = map (λ (w : Write). w.row) (writes_of lists slot n)

abbrev pub written_by : List ℕ → Transaction → List ℕ
written_by lists t = rows_written lists t.slot t.writes_n

-- the buckets of the old and the new key of a pending row, and of every one
abbrev pub write_needs : List ℕ → List ℕ → List ℕ → ℕ → Transaction → ℕ → List ℕ
write_needs rows versions lists bucket_count t r = keys_need bucket_count (keys_of rows versions lists t r)

abbrev pub writes_need : List ℕ → List ℕ → List ℕ → ℕ → Transaction → List ℕ
writes_need rows versions lists bucket_count t = join (write_needs rows versions lists bucket_count t) (written_by lists t)

-- the same, only where the transaction made a version and old and new key differ
abbrev pub write_changes : List ℕ → List ℕ → List ℕ → ℕ → Transaction → ℕ → List ℕ
write_changes rows versions lists bucket_count t r = keys_need bucket_count (changed_keys rows versions lists t r)

abbrev pub writes_change : List ℕ → List ℕ → List ℕ → ℕ → Transaction → List ℕ
writes_change rows versions lists bucket_count t = join (write_changes rows versions lists bucket_count t) (written_by lists t)
