-- What a step leaves of the transaction that asks, and all that an accepted step leaves, in one table.
use Rattle.std.specs.Prelude.{ℕ, suc, ◌≤◌, ◌<◌, ◌≡◌, true, false, ◌↔◌, ◌≢◌, ◌⊎◌, List, [], ◌∷◌, ◌++◌}
use Rattle.base_limits.specs.Limits.{most_live}
use Rattle.base_lists.specs.Lists.{Among}
use Rattle.model.specs.Store.{Index, Held, Snapshot, Phase, Open, Holding, Collected, Prepared, Installed, Ended, IndexRead, Write, ReadRecord, Txn}
use Rattle.model.specs.Store.{Store, no_txn, rank, phase_ended, key_in}
use Rattle.model.specs.Seeing.{Live}
use Rattle.model.specs.Contents.{key_held, payload_held}
use Rattle.model.specs.Steps.{new_txn, add_read, posted_rows, records_after}
use Rattle.model.specs.Refusals.{Step, begin, capture, collect, rows, write, prepare, install, end, publish, validate, abort, txn_of}
use Rattle.model.specs.Machine.{at, actor}
use Rattle.model.specs.Given.{bucket_for, stamp_for}
use Rattle.model.specs.Effects.{clock_after, makes, LastWrite, VersionsAfter, Stamps, posts, Takes, Frees, Claimed, Unclaimed}

-- what is left of a part of the record: a new one at begin, none where the record ends, else as the step says
module _ {A : Type 0} where
  abbrev pub part : A → A → A → Step → A
  part new none_left kept begin = new
  part new none_left kept (capture t k) = kept
  part new none_left kept (collect t) = kept
  part new none_left kept (rows t room) = kept
  part new none_left kept (write t r c) = kept
  part new none_left kept (prepare t) = kept
  part new none_left kept (install t) = kept
  part new none_left kept (end t) = kept
  part new none_left kept (publish t) = none_left
  part new none_left kept (validate t) = kept
  part new none_left kept (abort t) = none_left

-- the phase
abbrev pub phase_after : Store → Step → Phase
phase_after s begin = Open
phase_after s (capture t k) = Holding (bucket_for s k) k
phase_after s (collect t) = Collected (key_in (txn_of s t).phase)
phase_after s (rows t room) = Open
phase_after s (write t r c) = Open
phase_after s (prepare t) = Prepared
phase_after s (install t) = Installed
phase_after s (end t) = Ended
phase_after s (publish t) = Open
phase_after s (validate t) = Open
phase_after s (abort t) = Open

-- the index reads: capture adds its bucket's, once
abbrev pub reads_after : Store → Step → List IndexRead → List IndexRead
reads_after s begin rs = []
reads_after s (capture t k) rs = add_read rs (bucket_for s k) (stamp_for s k)
reads_after s (collect t) rs = rs
reads_after s (rows t room) rs = rs
reads_after s (write t r c) rs = rs
reads_after s (prepare t) rs = rs
reads_after s (install t) rs = rs
reads_after s (end t) rs = rs
reads_after s (publish t) rs = []
reads_after s (validate t) rs = rs
reads_after s (abort t) rs = []

-- which it is: a bucket that has an index read gets none, and another gets one with its stamp, behind the others
abbrev pub Captures : Store → Step → List IndexRead → List IndexRead → Type 0
Captures s begin rs rs' = Unit {0}
Captures s (capture t k) rs rs' = ((r : IndexRead) → Among r rs → r.bucket ≡ bucket_for s k → rs' ≡ rs)
    × (((r : IndexRead) → Among r rs → r.bucket ≢ bucket_for s k) → rs' ≡ rs ++ (record { bucket = bucket_for s k; stamp = stamp_for s k } ∷ []))
Captures s (collect t) rs rs' = Unit {0}
Captures s (rows t room) rs rs' = Unit {0}
Captures s (write t r c) rs rs' = Unit {0}
Captures s (prepare t) rs rs' = Unit {0}
Captures s (install t) rs rs' = Unit {0}
Captures s (end t) rs rs' = Unit {0}
Captures s (publish t) rs rs' = Unit {0}
Captures s (validate t) rs rs' = Unit {0}
Captures s (abort t) rs rs' = Unit {0}

-- the pending writes: a write appends its row with the key and the payload, or with none
abbrev pub writes_after : Step → List Write → List Write
writes_after begin ws = []
writes_after (capture t k) ws = ws
writes_after (collect t) ws = ws
writes_after (rows t room) ws = ws
writes_after (write t r c) ws = ws ++ (record { row = r; key = key_held c; payload = payload_held c } ∷ [])
writes_after (prepare t) ws = ws
writes_after (install t) ws = ws
writes_after (end t) ws = ws
writes_after (publish t) ws = []
writes_after (validate t) ws = ws
writes_after (abort t) ws = []

-- the read records: rows adds those of the versions that it read
abbrev pub read_records_after : Store → Step → List ReadRecord → List ReadRecord
read_records_after s begin qs = []
read_records_after s (capture t k) qs = qs
read_records_after s (collect t) qs = qs
read_records_after s (rows t room) qs = records_after s (txn_of s t)
read_records_after s (write t r c) qs = qs
read_records_after s (prepare t) qs = qs
read_records_after s (install t) qs = qs
read_records_after s (end t) qs = qs
read_records_after s (publish t) qs = []
read_records_after s (validate t) qs = qs
read_records_after s (abort t) qs = []

-- the candidates: collect keeps them, rows clears them
abbrev pub candidates_after : Store → Step → List ℕ → List ℕ
candidates_after s begin rs = []
candidates_after s (capture t k) rs = rs
candidates_after s (collect t) rs = posted_rows s (key_in (txn_of s t).phase)
candidates_after s (rows t room) rs = []
candidates_after s (write t r c) rs = rs
candidates_after s (prepare t) rs = rs
candidates_after s (install t) rs = rs
candidates_after s (end t) rs = rs
candidates_after s (publish t) rs = []
candidates_after s (validate t) rs = rs
candidates_after s (abort t) rs = []

-- the snapshot that begin takes: below the new clock, without every live transaction that is not Ended; its xmin is the least of these and the own number
pub record TakenAt (s : Store) (v : Snapshot) : Type 0 where
  pub xmax-is : v.xmax ≡ suc s.clock
  pub active-are : (n : ℕ) → Among n v.active
      ↔ ((i : ℕ) × (i < most_live) × Live (s.txns i) × (rank (s.txns i).phase < phase_ended) × (n ≡ (s.txns i).number))
  pub xmin-below : (v.xmin ≤ s.clock) × ((n : ℕ) → Among n v.active → v.xmin ≤ n)
  pub xmin-is : (v.xmin ≡ s.clock) ⊎ Among v.xmin v.active

-- said of begin alone
abbrev pub AtBegin : Step → Type 0 → Type 0
AtBegin begin P = P
AtBegin (capture t k) P = Unit {0}
AtBegin (collect t) P = Unit {0}
AtBegin (rows t room) P = Unit {0}
AtBegin (write t r c) P = Unit {0}
AtBegin (prepare t) P = Unit {0}
AtBegin (install t) P = Unit {0}
AtBegin (end t) P = Unit {0}
AtBegin (publish t) P = Unit {0}
AtBegin (validate t) P = Unit {0}
AtBegin (abort t) P = Unit {0}

-- the record of the transaction that asks; a record that ended leaves a free place
abbrev pub asker_after : Store → Step → Txn → Txn
asker_after s a x = record {
  number = part s.clock 0 x.number a;
  snapshot = part (new_txn s).snapshot no_txn.snapshot x.snapshot a;
  marked = part false false x.marked a;
  phase = phase_after s a;
  reads = reads_after s a x.reads;
  writes = writes_after a x.writes;
  records = read_records_after s a x.records;
  candidates = candidates_after s a x.candidates;
}

-- stamps and postings
pub record IndexAfter (s : Store) (a : Step) (x : Index) : Type 0 where
  pub stamp-new : (b : ℕ) → Stamps s a b → x.stamp b ≡ s.clock
  pub stamp-stays : (b : ℕ) → (Stamps s a b → ⊥) → x.stamp b ≡ s.index.stamp b
  pub posted-new : (r : ℕ) → Among r (posts s a) → (w : Write) × LastWrite (txn_of s (actor a)).writes r w × (x.posted r ≡ w.key)
  pub posted-stays : (r : ℕ) → (Among r (posts s a) → ⊥) → x.posted r ≡ s.index.posted r

-- holders and claims
pub record HeldAfter (s : Store) (a : Step) (h : Held) : Type 0 where
  pub holder-taken : (b : ℕ) → Takes s a b → h.holder b ≡ actor a
  pub holder-freed : (b : ℕ) → Frees s a b → h.holder b ≡ 0
  pub holder-stays : (b : ℕ) → (Takes s a b → ⊥) → (Frees s a b → ⊥) → h.holder b ≡ s.held.holder b
  pub claim-taken : (r : ℕ) → Claimed s a r → h.claim r ≡ actor a
  pub claim-freed : (r : ℕ) → Unclaimed s a r → h.claim r ≡ 0
  pub claim-stays : (r : ℕ) → (Claimed s a r → ⊥) → (Unclaimed s a r → ⊥) → h.claim r ≡ s.held.claim r

-- all that an accepted step leaves
pub record Leaves (s : Store) (a : Step) (s' : Store) : Type 0 where
  pub sizes-stay : s'.sizes ≡ s.sizes
  pub clock-is : s'.clock ≡ clock_after a s.clock
  pub versions-are : VersionsAfter (txn_of s (actor a)) (makes s a) s.chains s'.chains
  pub index_is : IndexAfter s a s'.index
  pub held-is : HeldAfter s a s'.held
  pub asker-is : s'.txns (at s (actor a)) ≡ asker_after s a (txn_of s (actor a))
  pub snapshot-taken : AtBegin a (TakenAt s (s'.txns (at s (actor a))).snapshot)
  pub read-added : Captures s a (txn_of s (actor a)).reads (s'.txns (at s (actor a))).reads
  pub others-stay : (i : ℕ) → i ≢ at s (actor a) → s'.txns i ≡ s.txns i

-- a stale stamp leaves the mark on the transaction at place i, and nothing else
pub record MarksOnly (s s' : Store) (i : ℕ) : Type 0 where
  pub sizes-stay : s'.sizes ≡ s.sizes
  pub clock-stays : s'.clock ≡ s.clock
  pub chains-stay : s'.chains ≡ s.chains
  pub index_stays : s'.index ≡ s.index
  pub held_stays : s'.held ≡ s.held
  pub others-stay : (j : ℕ) → j ≢ i → s'.txns j ≡ s.txns j
  pub marked : (s'.txns i).marked ≡ true
  pub number-stays : (s'.txns i).number ≡ (s.txns i).number
  pub snapshot-stays : (s'.txns i).snapshot ≡ (s.txns i).snapshot
  pub phase-stays : (s'.txns i).phase ≡ (s.txns i).phase
  pub reads-stay : (s'.txns i).reads ≡ (s.txns i).reads
  pub writes-stay : (s'.txns i).writes ≡ (s.txns i).writes
  pub records-stay : (s'.txns i).records ≡ (s.txns i).records
  pub candidates-stay : (s'.txns i).candidates ≡ (s.txns i).candidates
