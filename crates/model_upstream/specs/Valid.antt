-- Upstream's validity of a transaction and of a history, over a run's store, events and actions.
use Rattle.std.specs.Prelude.{ℕ, ◌≤◌, ◌<◌, ◌≡◌, false, ◌⊎◌, List}
use Rattle.std.proofs.Math.Option.{none, some}
use Rattle.base_lists.specs.Lists.{member, Among}
use Rattle.model.specs.Store.{Chains, Write, Txn, Store}
use Rattle.model.specs.Seeing.{seen}
use Rattle.model.specs.Upstream.{Event, Coherent}
use Rattle.model.specs.Holding.{Unpublished}
use Rattle.model_upstream.specs.Clauses.{GuardedStampHistory, HistoryMapsSnapshot}
use Rattle.model_upstream.specs.Protocol.{Action, protocol_after, ProtocolHistory}

-- a pointer that has a version
abbrev pub Known : Chains → ℕ → Type 0
Known c p = (1 ≤ p) × (p ≤ c.used)

-- image_valid: a head is 0 or has a version, and so has a next, which is of lower rank: a pointer is its own rank
pub record ImageValid (s : Store) : Type 0 where
  pub heads : (r : ℕ) → r < s.sizes.rows → (s.chains.head r ≡ 0) ⊎ Known s.chains (s.chains.head r)
  pub nexts : (p : ℕ) → Known s.chains p → (s.chains.next p ≡ 0) ⊎ (Known s.chains (s.chains.next p) × (s.chains.next p < p))

-- transaction_valid: a pending write has no version yet, so only its row is asked for
pub record TransactionValid (s : Store) (x : Txn) : Type 0 where
  pub image : ImageValid s
  pub number_in : (0 < x.number) × (x.number < x.snapshot.xmax)
  pub xmin-in : (0 < x.snapshot.xmin) × (x.snapshot.xmin ≤ x.number)
  pub writes-in : (w : Write) → Among w x.writes → w.row < s.sizes.rows

-- history_valid but for history_maps_snapshot; every bucket has the stamp 0 at first, and a key has one bucket
pub record HistoryKept (clock : ℕ) (s : Store) (x : Txn) (es : List Event) (acts : List Action) : Type 0 where
  pub transaction : TransactionValid s x
  pub coherent : Coherent (λ r. none) es
  pub protocol : ProtocolHistory clock acts
  pub observed : (protocol_after clock acts).observed x.number ≡ some (λ n. member n x.snapshot.active)
  pub published : (e : Event) → Among e es → (protocol_after clock acts).published e.creator ≡ some e.stamp
  pub guarded : GuardedStampHistory s.sizes (λ b. 0) es

-- history_valid
abbrev pub HistoryValid : ℕ → Store → Txn → List Event → List Action → Type 0
HistoryValid clock s x es acts = HistoryKept clock s x es acts × HistoryMapsSnapshot s x es

-- x sees no version of the row that still waits for its publish
abbrev pub NoneWaiting : Store → Txn → ℕ → Type 0
NoneWaiting s x r = (w : ℕ) → Unpublished s.sizes s.chains (s.txns w) r → seen x.snapshot (s.chains.xmin (s.chains.head r)) ≡ false
