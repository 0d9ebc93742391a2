-- The steps of a transaction: what each leaves where it is not refused. Place i is where the transaction stands.
use Rattle.std.specs.Prelude.{ℕ, suc, Bool, true, false, cond, ◌&&◌, ◌||◌, List, [], ◌∷◌, ◌++◌, map, eqb, leb}
use Rattle.std.proofs.Math.Option.{Option, none, some}
use Rattle.base_lists.specs.Lists.{member, least, pick, some_of, join}
use Rattle.base_lists.specs.Table.{update, update_all}
use Rattle.model.specs.Store.{Sizes, Chains, Index, Held, Phase, Open, Holding, Collected, Prepared, Installed, IndexRead, Write, ReadRecord, Txn, Store}
use Rattle.model.specs.Store.{no_txn, bucket_in, key_in, keyed, same_key, bucket_of}
use Rattle.model.specs.Seeing.{key_at, last_write, pending, written_key, matches, record_of, active_numbers}

-- one part of the store, or of a transaction, anew
abbrev pub with_txn : Store → ℕ → Txn → Store
with_txn s i x = record { sizes = s.sizes; clock = s.clock; chains = s.chains; index = s.index; held = s.held; txns = update s.txns i x }

abbrev pub with_held : Store → Held → Store
with_held s h = record { sizes = s.sizes; clock = s.clock; chains = s.chains; index = s.index; held = h; txns = s.txns }

abbrev pub with_holder : Store → (ℕ → ℕ) → Store
with_holder s f = with_held s (record { holder = f; claim = s.held.claim })

abbrev pub with_chains : Store → Chains → Store
with_chains s c = record { sizes = s.sizes; clock = s.clock; chains = c; index = s.index; held = s.held; txns = s.txns }

abbrev pub with_index : Store → Index → Store
with_index s x = record { sizes = s.sizes; clock = s.clock; chains = s.chains; index = x; held = s.held; txns = s.txns }

-- clock up by 1
abbrev pub tick : Store → Store
tick s = record { sizes = s.sizes; clock = suc s.clock; chains = s.chains; index = s.index; held = s.held; txns = s.txns }

abbrev pub with_phase : Txn → Phase → Txn
with_phase x ph = record {
  number = x.number;
  snapshot = x.snapshot;
  marked = x.marked;
  phase = ph;
  reads = x.reads;
  writes = x.writes;
  records = x.records;
  candidates = x.candidates;
}

abbrev pub becomes : Store → ℕ → Phase → Store
becomes s i ph = with_txn s i (with_phase (s.txns i) ph)

-- begin: number = clock, clock up by 1, snapshot xmax = the new clock; active is every other live transaction not in phase Ended
abbrev pub new_txn : Store → Txn
new_txn s = record {
  number = s.clock;
  snapshot = record { xmin = least s.clock (active_numbers s.txns); xmax = suc s.clock; active = active_numbers s.txns };
  marked = false;
  phase = Open;
  reads = [];
  writes = [];
  records = [];
  candidates = [];
}

abbrev pub begun : Store → ℕ → Store
begun s i = tick (with_txn s i (new_txn s))

-- capture: a stale stamp sets the mark and nothing else
abbrev pub marked_txn : Txn → Txn
marked_txn x = record {
  number = x.number;
  snapshot = x.snapshot;
  marked = true;
  phase = x.phase;
  reads = x.reads;
  writes = x.writes;
  records = x.records;
  candidates = x.candidates;
}

abbrev pub stale : Store → ℕ → Store
stale s i = with_txn s i (marked_txn (s.txns i))

-- a bucket has an index read
unfoldable pub has_read : List IndexRead → ℕ → Bool
has_read rs b = some_of (λ r. eqb r.bucket b) rs

-- the first capture of a bucket adds one index read, a later one adds none
unfoldable pub add_read : List IndexRead → ℕ → ℕ → List IndexRead
add_read rs b stamp = cond (has_read rs b) rs (rs ++ (record { bucket = b; stamp = stamp } ∷ []))

abbrev pub captured_txn : Store → Txn → ℕ → Txn
captured_txn s x k = record {
  number = x.number;
  snapshot = x.snapshot;
  marked = x.marked;
  phase = Holding (bucket_of s.sizes k) k;
  reads = add_read x.reads (bucket_of s.sizes k) (s.index.stamp (bucket_of s.sizes k));
  writes = x.writes;
  records = x.records;
  candidates = x.candidates;
}

abbrev pub captured : Store → ℕ → ℕ → Store
captured s i k = with_txn (with_holder s (update s.held.holder (bucket_of s.sizes k) (s.txns i).number)) i (captured_txn s (s.txns i) k)

-- collect: the rows posted with exactly this key are kept ascending; the bucket is freed
unfoldable pub posted_rows : Store → ℕ → List ℕ
posted_rows s k = pick (λ r. same_key (s.index.posted r) (some k)) 0 s.sizes.rows

abbrev pub collected_txn : Store → Txn → Txn
collected_txn s x = record {
  number = x.number;
  snapshot = x.snapshot;
  marked = x.marked;
  phase = Collected (key_in x.phase);
  reads = x.reads;
  writes = x.writes;
  records = x.records;
  candidates = posted_rows s (key_in x.phase);
}

abbrev pub collected : Store → ℕ → Store
collected s i = with_txn (with_holder s (update s.held.holder (bucket_in (s.txns i).phase) 0)) i (collected_txn s (s.txns i))

-- rows: candidates joined with own pending rows, filtered by the matching rule, ascending
unfoldable pub found_rows : Store → Txn → List ℕ
found_rows s x = pick (λ r. (member r x.candidates || pending x.writes r) && matches s.chains x (key_in x.phase) r) 0 s.sizes.rows

-- a pointer is recorded
unfoldable pub recorded : List ReadRecord → ℕ → Bool
recorded rs p = some_of (λ r. eqb r.ptr p) rs

-- a record is added where its pointer is not yet recorded
unfoldable pub recording : List ReadRecord → ReadRecord → List ReadRecord
recording rs r = cond (recorded rs r.ptr) rs (rs ++ (r ∷ []))

-- for each row matched through a version, in row order
unfoldable pub record_all : Chains → Txn → List ReadRecord → List ℕ → List ReadRecord
record_all c x rs [] = rs
record_all c x rs (r ∷ more) = record_all c x (cond (pending x.writes r) rs (recording rs (record_of c x.snapshot r))) more

abbrev pub records_after : Store → Txn → List ReadRecord
records_after s x = record_all s.chains x x.records (found_rows s x)

abbrev pub read_txn : Store → Txn → Txn
read_txn s x = record {
  number = x.number;
  snapshot = x.snapshot;
  marked = x.marked;
  phase = Open;
  reads = x.reads;
  writes = x.writes;
  records = records_after s x;
  candidates = [];
}

abbrev pub read_done : Store → ℕ → Store
read_done s i = with_txn s i (read_txn s (s.txns i))

-- a write is appended to the pending ones
abbrev pub written_txn : Txn → Write → Txn
written_txn x w = record {
  number = x.number;
  snapshot = x.snapshot;
  marked = x.marked;
  phase = x.phase;
  reads = x.reads;
  writes = x.writes ++ (w ∷ []);
  records = x.records;
  candidates = x.candidates;
}

abbrev pub written : Store → ℕ → Write → Store
written s i w = with_txn s i (written_txn (s.txns i) w)

-- the distinct pending rows, ascending
unfoldable pub pending_rows : Sizes → List Write → List ℕ
pending_rows z ws = pick (pending ws) 0 z.rows

-- old key: the head version's; after install it is the version after the head. new key: the row's last write's
abbrev pub old_key : Chains → ℕ → Option ℕ
old_key c r = key_at c (c.head r)

abbrev pub key_before : Chains → ℕ → Option ℕ
key_before c r = key_at c (c.next (c.head r))

abbrev pub new_key : Txn → ℕ → Option ℕ
new_key x r = written_key (last_write x.writes r)

-- a pending row gets a version where its head is live or its last write is a put; an erase of nothing gets none
unfoldable pub gets_version : Chains → List Write → ℕ → Bool
gets_version c ws r = keyed (old_key c r) || keyed (written_key (last_write ws r))

-- the distinct pending rows that get a version, ascending
unfoldable pub version_rows : Sizes → Chains → List Write → List ℕ
version_rows z c ws = pick (λ r. pending ws r && gets_version c ws r) 0 z.rows

-- a row is headed by a version of transaction n
unfoldable pub headed_by : Chains → ℕ → ℕ → Bool
headed_by c n r = leb 1 (c.head r) && eqb (c.xmin (c.head r)) n

-- after install: the distinct pending rows that got a version, ascending
unfoldable pub made_rows : Sizes → Chains → ℕ → List Write → List ℕ
made_rows z c n ws = pick (λ r. pending ws r && headed_by c n r) 0 z.rows

-- the bucket of a key; no key needs none
unfoldable pub key_buckets : Sizes → Option ℕ → List ℕ
key_buckets z none = []
key_buckets z (some k) = bucket_of z k ∷ []

-- prepare: takes the buckets of all index reads, and of the old and new key of every pending row
unfoldable pub read_buckets : Txn → List ℕ
read_buckets x = map (λ (r : IndexRead). r.bucket) x.reads

unfoldable pub needed_buckets : Store → Txn → List ℕ
needed_buckets s x = read_buckets x ++ join (λ r. key_buckets s.sizes (old_key s.chains r) ++ key_buckets s.sizes (new_key x r))
    (pending_rows s.sizes x.writes)

-- claims every pending row
abbrev pub prepared_held : Store → Txn → Held
prepared_held s x = record {
  holder = update_all s.held.holder (needed_buckets s x) x.number;
  claim = update_all s.held.claim (pending_rows s.sizes x.writes) x.number;
}

abbrev pub prepared : Store → ℕ → Store
prepared s i = becomes (with_held s (prepared_held s (s.txns i))) i Prepared

-- install, one row: a new version from the last write, xmin = number, xmax 0, next = old head; the old head's xmax = number (entry 0 stands for no version)
abbrev pub push : ℕ → ℕ → Option ℕ → ℕ → Chains → Chains
push n r k payload c = record {
  used = suc c.used;
  head = update c.head r (suc c.used);
  xmin = update c.xmin (suc c.used) n;
  xmax = update (update c.xmax (suc c.used) 0) (c.head r) n;
  next = update c.next (suc c.used) (c.head r);
  key = update c.key (suc c.used) k;
  payload = update c.payload (suc c.used) payload;
}

-- the payload of a write that was found, 0 if an erase
unfoldable pub written_payload : Option Write → ℕ
written_payload none = 0
written_payload (some w) = w.payload

-- for each row of a list, in its order
unfoldable pub push_all : Txn → List ℕ → Chains → Chains
push_all x [] c = c
push_all x (r ∷ rs) c = push_all x rs (push x.number r (new_key x r) (written_payload (last_write x.writes r)) c)

-- install: for each distinct pending row that gets a version, ascending
abbrev pub installed : Store → ℕ → Store
installed s i = becomes (with_chains s (push_all (s.txns i) (version_rows s.sizes s.chains (s.txns i).writes) s.chains)) i Installed

-- publish: postings follow the new keys
unfoldable pub repost : Txn → List ℕ → (ℕ → Option ℕ) → ℕ → Option ℕ
repost x rs posted r = cond (member r rs) (new_key x r) (posted r)

-- only where a row got a version, and its old and new key differ, do both their buckets get the stamp
unfoldable pub changed_buckets : Store → Txn → List ℕ
changed_buckets s x =
    join (λ r. cond (same_key (key_before s.chains r) (new_key x r)) [] (key_buckets s.sizes (key_before s.chains r) ++ key_buckets s.sizes (new_key x r)))
    (made_rows s.sizes s.chains x.number x.writes)

abbrev pub published_index : Store → Txn → Index
published_index s x = record {
  stamp = update_all s.index.stamp (changed_buckets s x) s.clock;
  posted = repost x (pending_rows s.sizes x.writes) s.index.posted;
}

-- buckets and claims are freed: what carries the own number
unfoldable pub release : ℕ → (ℕ → ℕ) → ℕ → ℕ
release n f j = cond (eqb (f j) n) 0 (f j)

abbrev pub freed : Held → ℕ → Held
freed h n = record { holder = release n h.holder; claim = release n h.claim }

-- the record ends
abbrev pub ended : Store → ℕ → Store
ended s i = with_txn (with_held s (freed s.held (s.txns i).number)) i no_txn

abbrev pub published : Store → ℕ → Store
published s i = tick (ended (with_index s (published_index s (s.txns i))) i)
