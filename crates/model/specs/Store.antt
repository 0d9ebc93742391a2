-- The store: versions, rows, buckets, postings, and the live transactions.
use Rattle.std.specs.Prelude.{ℕ, ◌%◌, Bool, true, false, List, [], eqb}
use Rattle.std.proofs.Math.Option.{Option, none, some}

-- how many rows, versions and buckets the store was opened with
pub record Sizes : Type 0 where
  pub rows : ℕ
  pub versions : ℕ
  pub buckets : ℕ

-- Versions: pointers 1 up to `used` are given, in rising order; each has xmin, xmax, next, a key or none (erased), a payload.
-- A row has a head pointer, 0 for none.
pub record Chains : Type 0 where
  pub used : ℕ
  pub head : ℕ → ℕ
  pub xmin : ℕ → ℕ
  pub xmax : ℕ → ℕ
  pub next : ℕ → ℕ
  pub key : ℕ → Option ℕ
  pub payload : ℕ → ℕ

-- A bucket has a stamp. A posting is (key, row): a row is posted with one key, or with none.
pub record Index : Type 0 where
  pub stamp : ℕ → ℕ
  pub posted : ℕ → Option ℕ

-- A bucket has a holder and a row has a claim: 0 or a transaction number.
pub record Held : Type 0 where
  pub holder : ℕ → ℕ
  pub claim : ℕ → ℕ

-- what a transaction sees: numbers below xmax that are not among the active ones
pub record Snapshot : Type 0 where
  pub xmin : ℕ
  pub xmax : ℕ
  pub active : List ℕ

-- the phase carries its bucket and key
pub data Phase : Type 0 where
  Open : Phase
  Holding : ℕ → ℕ → Phase
  Collected : ℕ → Phase
  Prepared : Phase
  Installed : Phase
  Ended : Phase

-- (bucket, stamp) of a captured bucket
pub record IndexRead : Type 0 where
  pub bucket : ℕ
  pub stamp : ℕ

-- a pending write; no key is an erase
pub record Write : Type 0 where
  pub row : ℕ
  pub key : Option ℕ
  pub payload : ℕ

-- the version that a row was read at
pub record ReadRecord : Type 0 where
  pub row : ℕ
  pub ptr : ℕ
  pub xmin : ℕ

-- a transaction; its lists are oldest first; `candidates` are the rows that collect keeps, ascending
pub record Txn : Type 0 where
  pub number : ℕ
  pub snapshot : Snapshot
  pub marked : Bool
  pub phase : Phase
  pub reads : List IndexRead
  pub writes : List Write
  pub records : List ReadRecord
  pub candidates : List ℕ

-- the whole store; live transactions stand at the places 0 to 7, and number 0 marks a free place
pub record Store : Type 0 where
  pub sizes : Sizes
  pub clock : ℕ
  pub chains : Chains
  pub index : Index
  pub held : Held
  pub txns : ℕ → Txn

-- what stands at a free place
abbrev pub no_txn : Txn
no_txn = record {
  number = 0;
  snapshot = record { xmin = 0; xmax = 0; active = [] };
  marked = false;
  phase = Open;
  reads = [];
  writes = [];
  records = [];
  candidates = [];
}

-- a fresh store has no versions, all stamps 0, no postings, and the clock given to it
abbrev pub fresh : Sizes → ℕ → Store
fresh z clock = record {
  sizes = z;
  clock = clock;
  chains = record { used = 0; head = λ r. 0; xmin = λ p. 0; xmax = λ p. 0; next = λ p. 0; key = λ p. none; payload = λ p. 0 };
  index = record { stamp = λ b. 0; posted = λ r. none };
  held = record { holder = λ b. 0; claim = λ r. 0 };
  txns = λ i. no_txn;
}

-- the phases' numbers, in document 01's order
abbrev pub phase_open : ℕ
phase_open = 1

abbrev pub phase_holding : ℕ
phase_holding = 2

abbrev pub phase_collected : ℕ
phase_collected = 3

abbrev pub phase_prepared : ℕ
phase_prepared = 4

abbrev pub phase_installed : ℕ
phase_installed = 5

abbrev pub phase_ended : ℕ
phase_ended = 6

-- a phase as its number
abbrev pub rank : Phase → ℕ
rank Open = phase_open
rank (Holding b k) = phase_holding
rank (Collected k) = phase_collected
rank Prepared = phase_prepared
rank Installed = phase_installed
rank Ended = phase_ended

-- the bucket that a phase carries, and the key
abbrev pub bucket_in : Phase → ℕ
bucket_in Open = 0
bucket_in (Holding b k) = b
bucket_in (Collected k) = 0
bucket_in Prepared = 0
bucket_in Installed = 0
bucket_in Ended = 0

abbrev pub key_in : Phase → ℕ
key_in Open = 0
key_in (Holding b k) = k
key_in (Collected k) = k
key_in Prepared = 0
key_in Installed = 0
key_in Ended = 0

-- a key is there
unfoldable pub keyed : Option ℕ → Bool
keyed none = false
keyed (some k) = true

-- two keys, or none: none differs from any key
unfoldable pub same_key : Option ℕ → Option ℕ → Bool
same_key none none = true
same_key none (some k) = false
same_key (some j) none = false
same_key (some j) (some k) = eqb j k

-- the bucket of a key is the key modulo the bucket count
unfoldable pub bucket_of : Sizes → ℕ → ℕ
bucket_of z k = k % z.buckets
