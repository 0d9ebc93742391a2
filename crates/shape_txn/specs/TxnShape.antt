-- What the shape asks of one transaction's record and its lists, as the code tests it, word by word.
use Rattle.std.specs.Prelude.{ℕ, Bool, not, ◌&&◌, ◌||◌, List, eqb, ltb, leb, take}
use Rattle.base_limits.specs.Limits.{most_index_reads, most_writes, most_records, most_rows}
use Rattle.base_lists.specs.Lists.{every, least}
use Rattle.model.specs.Store.{rank, phase_installed, bucket_in}
use Rattle.model.specs.Shape.{within}
use Rattle.base_protocol.specs.declared.Extent.{Extent}
use Rattle.txn_needs.specs.Keys.{gets_version_of, headed_by}
use Rattle.table.specs.Lists.{read_at, write_at, record_at, candidate_at}
use Rattle.txn.specs.View.{phase_view}
use Rattle.txn.specs.declared.Transaction.{Transaction}

-- counts within limits
abbrev pub counts_fit : Transaction → Bool
counts_fit t = leb t.reads_n most_index_reads && leb t.writes_n most_writes && leb t.records_n most_records && leb t.candidates_n most_rows

-- rows, buckets and recorded pointers in range
abbrev pub writes_in : List ℕ → Transaction → ℕ → Bool
writes_in lists t rows = every t.writes_n (λ i. ltb (write_at lists t.slot i).row rows)

abbrev pub record_in : ℕ → ℕ → ℕ → ℕ → Bool
record_in rows used row ptr = ltb row rows && within ptr used

abbrev pub records_in : List ℕ → Transaction → ℕ → ℕ → Bool
records_in lists t rows used = every t.records_n (λ i. record_in rows used (record_at lists t.slot i).row (record_at lists t.slot i).ptr)

abbrev pub candidates_in : List ℕ → Transaction → ℕ → Bool
candidates_in lists t rows = every t.candidates_n (λ i. ltb (candidate_at lists t.slot i) rows)

abbrev pub reads_in : List ℕ → Transaction → ℕ → Bool
reads_in lists t buckets = every t.reads_n (λ i. ltb (read_at lists t.slot i).bucket buckets)

unfoldable pub ranges_fit : List ℕ → Extent → Transaction → Bool
ranges_fit lists e t =
    writes_in lists t e.sizes.rows
    && records_in lists t e.sizes.rows e.used
    && candidates_in lists t e.sizes.rows
    && reads_in lists t e.sizes.buckets
    && ltb (bucket_in (phase_view t.phase)) e.sizes.buckets

-- a pending row headed by a version of the transaction; or its last write is an erase and it has no live head
abbrev pub row_fits : List ℕ → List ℕ → List ℕ → Transaction → ℕ → Bool
row_fits rows versions lists t r = headed_by rows versions t.number r || not (gets_version_of rows versions lists t.slot t.writes_n r)

abbrev pub rows_headed : List ℕ → List ℕ → List ℕ → Transaction → Bool
rows_headed rows versions lists t = every t.writes_n (λ i. row_fits rows versions lists t (write_at lists t.slot i).row)

-- each pending row of an Installed or Ended transaction
unfoldable pub heads_fit : List ℕ → List ℕ → List ℕ → Transaction → Bool
heads_fit rows versions lists t = ltb (rank (phase_view t.phase)) phase_installed || rows_headed rows versions lists t

-- snapshot xmin the least of its active numbers and its own
abbrev pub least_of : Transaction → ℕ
least_of t = least t.number (take t.snapshot.active_n t.snapshot.active)

-- a live transaction, and what stands at a place
unfoldable pub txn_fits : List ℕ → List ℕ → List ℕ → Extent → Transaction → Bool
txn_fits rows versions lists e t =
    ltb t.number e.clock
    && eqb t.snapshot.xmin (least_of t)
    && counts_fit t
    && ranges_fit lists e t
    && heads_fit rows versions lists t

unfoldable pub place_fits : List ℕ → List ℕ → List ℕ → Extent → Transaction → Bool
place_fits rows versions lists e t = eqb t.number 0 || txn_fits rows versions lists e t
