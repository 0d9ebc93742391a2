-- The shape that public steps test first: a store of another shape gets 16.
use Rattle.std.specs.Prelude.{ℕ, suc, ◌+◌, Bool, not, ◌&&◌, ◌||◌, eqb, ltb, leb, length}
use Rattle.base_limits.specs.Limits.{most_rows, most_versions, most_buckets, most_live, most_active, most_index_reads, most_records, most_writes, last_number}
use Rattle.base_lists.specs.Lists.{least, every, all_of}
use Rattle.model.specs.Store.{Sizes, Chains, IndexRead, Write, ReadRecord, Txn, Store, rank, phase_installed, bucket_in}
use Rattle.model.specs.Seeing.{live}
use Rattle.model.specs.Steps.{pending_rows, gets_version, headed_by}
use Rattle.model.specs.Refusals.{live_count, reserved}

-- a size is from 1 to the most
abbrev pub within : ℕ → ℕ → Bool
within n most = leb 1 n && leb n most

-- sizes within limits
unfoldable pub good_sizes : Sizes → Bool
good_sizes z = within z.rows most_rows && within z.versions most_versions && within z.buckets most_buckets

-- heads at most the last used pointer, each next below its own pointer
unfoldable pub good_chains : Sizes → Chains → Bool
good_chains z c = leb c.used z.versions && every z.rows (λ r. leb (c.head r) c.used) && every c.used (λ p. ltb (c.next (suc p)) (suc p))

-- counts within limits
unfoldable pub good_counts : Txn → Bool
good_counts x =
    leb (length x.snapshot.active) most_active
    && leb (length x.reads) most_index_reads
    && leb (length x.writes) most_writes
    && leb (length x.records) most_records
    && leb (length x.candidates) most_rows

-- rows, buckets and recorded pointers in range
unfoldable pub good_ranges : Sizes → ℕ → Txn → Bool
good_ranges z used x =
    all_of (λ (w : Write). ltb w.row z.rows) x.writes
    && all_of (λ (r : ReadRecord). ltb r.row z.rows && within r.ptr used) x.records
    && all_of (λ r. ltb r z.rows) x.candidates
    && all_of (λ (r : IndexRead). ltb r.bucket z.buckets) x.reads
    && ltb (bucket_in x.phase) z.buckets

-- each pending row of an Installed or Ended transaction headed by a version of that xmin; or its last write is an erase, and it has no live head
unfoldable pub good_heads : Sizes → Chains → Txn → Bool
good_heads z c x = ltb (rank x.phase) phase_installed || all_of (λ r. headed_by c x.number r || not (gets_version c x.writes r))
    (pending_rows z x.writes)

-- a live transaction: its number below the clock, snapshot xmin the least of its active numbers and its own
unfoldable pub good_txn : Store → Txn → Bool
good_txn s x =
    ltb x.number s.clock
    && eqb x.snapshot.xmin (least x.number x.snapshot.active)
    && good_counts x
    && good_ranges s.sizes s.chains.used x
    && good_heads s.sizes s.chains x

-- live numbers distinct
unfoldable pub distinct_numbers : (ℕ → Txn) → Bool
distinct_numbers txns = every most_live (λ i. every i (λ j. not (live (txns i)) || not (eqb (txns i).number (txns j).number)))

unfoldable pub right_shape : Store → Bool
right_shape s =
    good_sizes s.sizes
    && leb 1 s.clock
    && good_chains s.sizes s.chains
    && every most_live (λ i. not (live (s.txns i)) || good_txn s (s.txns i))
    && distinct_numbers s.txns
    && leb (s.clock + live_count s.txns) last_number
    && leb (s.chains.used + reserved s.sizes s.chains s.txns most_live) s.sizes.versions
