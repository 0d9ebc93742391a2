-- Why a verdict is given, as facts: the mark, the first bad index read, the first bad read record, or none of them.
use Rattle.std.specs.Prelude.{ℕ, ◌≤◌, ◌<◌, ◌≡◌, true, false, ◌≢◌, ◌⊎◌, List, ◌∷◌, ◌++◌}
use Rattle.base_lists.specs.Lists.{Among}
use Rattle.model.specs.Store.{Chains, Index, IndexRead, ReadRecord, Txn}
use Rattle.model.specs.Verdict.{Verdict, Clear, Bucket, Row, Mark}

-- an index read whose present stamp differs or is not below the number; one that is good
abbrev pub ReadBad : Index → ℕ → IndexRead → Type 0
ReadBad i n r = (i.stamp r.bucket ≢ r.stamp) ⊎ (n ≤ i.stamp r.bucket)

abbrev pub ReadGood : Index → ℕ → IndexRead → Type 0
ReadGood i n r = (i.stamp r.bucket ≡ r.stamp) × (i.stamp r.bucket < n)

-- a record whose version has another xmin, or an xmax that is neither 0 nor the own number and is at or above snapshot xmax or among the active
abbrev pub RecordBad : Chains → Txn → ReadRecord → Type 0
RecordBad c x q = let m = c.xmax q.ptr in
    (c.xmin q.ptr ≢ q.xmin) ⊎ (((m ≢ 0) × (m ≢ x.number)) × ((x.snapshot.xmax ≤ m) ⊎ Among m x.snapshot.active))

abbrev pub RecordGood : Chains → Txn → ReadRecord → Type 0
RecordGood c x q = let m = c.xmax q.ptr in
    (c.xmin q.ptr ≡ q.xmin) × (((m ≡ 0) ⊎ (m ≡ x.number)) ⊎ ((m < x.snapshot.xmax) × (Among m x.snapshot.active → ⊥)))

-- x is the first bad entry of a list: all earlier ones are good
pub record First {A : Type 0} (Bad Good : A → Type 0) (xs : List A) (x : A) : Type 0 where
  pub earlier : List A
  pub later : List A
  pub stands : xs ≡ earlier ++ (x ∷ later)
  pub good : (y : A) → Among y earlier → Good y
  pub bad : Bad x

abbrev pub AllReadsGood : Index → Txn → Type 0
AllReadsGood i x = (r : IndexRead) → Among r x.reads → ReadGood i x.number r

abbrev pub AllRecordsGood : Chains → Txn → Type 0
AllRecordsGood c x = (q : ReadRecord) → Among q x.records → RecordGood c x q

-- why a verdict is given, in document 01's order
pub data Cause (c : Chains) (i : Index) (x : Txn) : Verdict → Type 0 where
  by-mark : x.marked ≡ true → Cause c i x Mark
  by_read : {b captured present : ℕ} (r : IndexRead) → x.marked ≡ false → First (ReadBad i x.number) (ReadGood i x.number) x.reads r
      → b ≡ r.bucket → captured ≡ r.stamp → present ≡ i.stamp r.bucket → Cause c i x (Bucket b captured present)
  by-record : {row ptr : ℕ} (q : ReadRecord) → x.marked ≡ false → AllReadsGood i x → First (RecordBad c x) (RecordGood c x) x.records q
      → row ≡ q.row → ptr ≡ q.ptr → Cause c i x (Row row ptr)
  by-none : x.marked ≡ false → AllReadsGood i x → AllRecordsGood c x → Cause c i x Clear
