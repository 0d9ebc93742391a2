-- The sizes and limits of document 01, each named once.
use Rattle.std.specs.Prelude.{ℕ}

-- rows 1 to 1,024
abbrev pub most_rows : ℕ
most_rows = 1024

-- versions 1 to 4,096
abbrev pub most_versions : ℕ
most_versions = 4096

-- buckets 1 to 4,096
abbrev pub most_buckets : ℕ
most_buckets = 4096

-- at most 8 transactions are live
abbrev pub most_live : ℕ
most_live = 8

-- the snapshot's active numbers, at most seven: all the other live transactions
abbrev pub most_active : ℕ
most_active = 7

-- each transaction has at most 16 index reads, 128 read records and 16 pending writes
abbrev pub most_index_reads : ℕ
most_index_reads = 16

abbrev pub most_records : ℕ
most_records = 128

abbrev pub most_writes : ℕ
most_writes = 16

-- L is 2^64 − 1
abbrev pub last_number : ℕ
last_number = 18446744073709551615
