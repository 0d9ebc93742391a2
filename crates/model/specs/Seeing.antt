-- Seeing a row: what a snapshot sees of a chain, and when a row matches a key.
use Rattle.std.specs.Prelude.{ℕ, zero, suc, ◌≤◌, Bool, false, cond, not, ◌&&◌, ◌||◌, List, [], ◌∷◌, map, eqb, ltb, leb}
use Rattle.std.proofs.Math.Option.{Option, none, some}
use Rattle.base_limits.specs.Limits.{most_live}
use Rattle.base_lists.specs.Lists.{member, least, pick}
use Rattle.model.specs.Store.{Chains, Snapshot, Write, ReadRecord, Txn, Store, same_key, rank, phase_ended}

-- a number is seen if it is below the snapshot's xmax and not among its active numbers
unfoldable pub seen : Snapshot → ℕ → Bool
seen s n = ltb n s.xmax && not (member n s.active)

-- a version is visible if its xmin is seen and its xmax is 0 or not seen
unfoldable pub visible : Chains → Snapshot → ℕ → Bool
visible c s p = seen s (c.xmin p) && (eqb (c.xmax p) 0 || not (seen s (c.xmax p)))

-- a pointer that was given
unfoldable pub known : Chains → ℕ → Bool
known c p = ltb 0 p && leb p c.used

-- the walk follows next until a version is visible or the pointer is 0, and answers its pointer, or 0; an unknown pointer gives none
unfoldable pub walk : Chains → Snapshot → ℕ → ℕ → ℕ
walk c s zero p = 0
walk c s (suc steps) p = cond (known c p) (cond (visible c s p) p (walk c s steps (c.next p))) 0

-- each next is below its own pointer, so p steps are enough
unfoldable pub first_visible : Chains → Snapshot → ℕ → ℕ
first_visible c s p = walk c s p p

-- the version of a row that a snapshot sees, and the key at a pointer: none at 0
abbrev pub version_of : Chains → Snapshot → ℕ → ℕ
version_of c s r = first_visible c s (c.head r)

unfoldable pub key_at : Chains → ℕ → Option ℕ
key_at c p = cond (eqb p 0) none (c.key p)

-- the last pending write of a row
unfoldable pub last_write_from : Option Write → List Write → ℕ → Option Write
last_write_from so [] r = so
last_write_from so (w ∷ ws) r = last_write_from (cond (eqb w.row r) (some w) so) ws r

abbrev pub last_write : List Write → ℕ → Option Write
last_write ws r = last_write_from none ws r

-- a row has a pending write
unfoldable pub pending : List Write → ℕ → Bool
pending [] r = false
pending (w ∷ ws) r = eqb w.row r || pending ws r

-- the key of a write that was found; an erase and no write have none
unfoldable pub written_key : Option Write → Option ℕ
written_key none = none
written_key (some w) = w.key

-- the key that a row shows to a transaction: of its last pending write, or else of the version that the walk finds
unfoldable pub shown_key : Chains → Txn → ℕ → Option ℕ
shown_key c x r = cond (pending x.writes r) (written_key (last_write x.writes r)) (key_at c (version_of c x.snapshot r))

-- the matching rule
unfoldable pub matches : Chains → Txn → ℕ → ℕ → Bool
matches c x k r = same_key (shown_key c x r) (some k)

-- the version that a row is seen at, as a read record
abbrev pub record_of : Chains → Snapshot → ℕ → ReadRecord
record_of c s r = record { row = r; ptr = version_of c s r; xmin = c.xmin (version_of c s r) }

-- all that a snapshot shows for a key: each row below n whose version carries it, ascending, with that version
unfoldable pub shows : Chains → ℕ → Snapshot → ℕ → List ReadRecord
shows c n s k = map (record_of c s) (pick (λ r. same_key (key_at c (version_of c s r)) (some k)) 0 n)

-- a live transaction, as a test and as a fact, and an active one: live and not Ended
abbrev pub live : Txn → Bool
live x = not (eqb x.number 0)

abbrev pub Live : Txn → Type 0
Live x = 1 ≤ x.number

abbrev pub active : Txn → Bool
active x = live x && ltb (rank x.phase) phase_ended

-- the numbers of the active transactions, by place
unfoldable pub active_numbers : (ℕ → Txn) → List ℕ
active_numbers txns = map (λ i. (txns i).number) (pick (λ i. active (txns i)) 0 most_live)

-- a snapshot taken at a step: the clock after it as xmax, and as active numbers every live transaction not Ended
unfoldable pub snapshot_now : Store → Snapshot
snapshot_now s = record { xmin = least s.clock (active_numbers s.txns); xmax = s.clock; active = active_numbers s.txns }
