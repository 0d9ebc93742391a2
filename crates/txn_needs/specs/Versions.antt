-- The pending rows that get a version, listed in lent words, and how many of them Prepared transactions have reserved.
use Rattle.std.specs.Prelude.{ℕ, zero, suc, ◌+◌, min, cond, List, [], ◌∷◌, take, get_or, replicate}
use Rattle.base_limits.specs.Limits.{most_buckets, most_writes}
use Rattle.base_lists.specs.Lists.{join}
use Rattle.table_buckets.specs.Buckets.{Made, canonical_of, sorted_count}
use Rattle.txn_needs.specs.Keys.{gets_version_of}
use Rattle.txn_needs.specs.Needs.{Listed, push_all, rows_written, front}

-- what a kernel listed
abbrev pub listed : Made → Listed
listed m = record { out = m.out; n = sorted_count m.answer }

-- the rows of the pending writes in sixteen words
unfoldable pub rows_listed : List ℕ → ℕ → ℕ → Listed
rows_listed lists slot n = push_all (record { out = replicate most_writes 0; n = 0 }) (rows_written lists slot n)

-- the distinct rows of the pending writes, ascending, at the front of a list
unfoldable pub pending_into : List ℕ → ℕ → ℕ → List ℕ → Listed
pending_into lists slot n out = listed (canonical_of (take (rows_listed lists slot n).n (rows_listed lists slot n).out) most_buckets out)

-- a row, where it gets a version
unfoldable pub kept : List ℕ → List ℕ → List ℕ → ℕ → ℕ → ℕ → List ℕ
kept rows versions lists slot n r = cond (gets_version_of rows versions lists slot n r) (r ∷ []) []

-- the distinct rows of the pending writes that get a version, ascending, at the front of a list
unfoldable pub versions_into : List ℕ → List ℕ → List ℕ → ℕ → ℕ → List ℕ → Listed
versions_into rows versions lists slot n out = push_all (record { out = out; n = 0 })
    (join (kept rows versions lists slot n) (front (pending_into lists slot n (replicate most_writes 0))))

-- how many distinct rows of the pending writes of a slot get a version; at most sixteen
unfoldable pub versions_in : List ℕ → List ℕ → List ℕ → ℕ → ℕ → ℕ
versions_in rows versions lists slot n = min (versions_into rows versions lists slot n (replicate most_writes 0)).n most_writes

-- of each of the first n slots, of its first pending writes, as many as are said
unfoldable pub reserved_in : List ℕ → List ℕ → List ℕ → List ℕ → ℕ → ℕ
reserved_in rows versions lists prepared zero = 0
reserved_in rows versions lists prepared (suc n) = reserved_in rows versions lists prepared n + versions_in rows versions lists n (get_or prepared n 0)
