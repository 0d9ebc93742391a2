-- What a transaction needs, as facts: buckets while Holding and from Prepared on, its pending rows from Prepared on; and which of these rows get a version.
use Rattle.std.specs.Prelude.{ℕ, ◌≤◌, ◌≡◌, ◌⊎◌, List, ◌++◌}
use Rattle.std.proofs.Math.Option.{Option, none}
use Rattle.base_lists.specs.Lists.{join, Among}
use Rattle.model.specs.Store.{Sizes, Chains, Holding, Txn, rank, phase_prepared, phase_installed}
use Rattle.model.specs.Seeing.{Live}
use Rattle.model.specs.Steps.{pending_rows, version_rows, made_rows, old_key, new_key, key_buckets, read_buckets}

-- r is a pending row of x
abbrev pub Writes : Sizes → Txn → ℕ → Type 0
Writes z x r = Among r (pending_rows z x.writes)

-- the buckets of all index reads, and of the posted and the new key of every pending row
unfoldable pub needs : Sizes → (ℕ → Option ℕ) → Txn → List ℕ
needs z posted x = read_buckets x ++ join (λ r. key_buckets z (posted r) ++ key_buckets z (new_key x r)) (pending_rows z x.writes)

-- a bucket is wanted while Holding it, and from Prepared on if it is needed; a row from Prepared on if it is pending
abbrev pub Wants : Sizes → (ℕ → Option ℕ) → Txn → ℕ → Type 0
Wants z posted x b = ((k : ℕ) × (x.phase ≡ Holding b k)) ⊎ ((phase_prepared ≤ rank x.phase) × Among b (needs z posted x))

abbrev pub Claims : Sizes → Txn → ℕ → Type 0
Claims z x r = (phase_prepared ≤ rank x.phase) × Writes z x r

-- r is a pending row of x that gets a version; that got one; of which x erases nothing: no live head, and the last write is an erase
abbrev pub Gets : Sizes → Chains → Txn → ℕ → Type 0
Gets z c x r = Among r (version_rows z c x.writes)

abbrev pub Made : Sizes → Chains → Txn → ℕ → Type 0
Made z c x r = Among r (made_rows z c x.number x.writes)

abbrev pub ErasesNothing : Chains → Txn → ℕ → Type 0
ErasesNothing c x r = (old_key c r ≡ none) × (new_key x r ≡ none)

-- x has made a version of row r and not published it
abbrev pub Unpublished : Sizes → Chains → Txn → ℕ → Type 0
Unpublished z c x r = Live x × (phase_installed ≤ rank x.phase) × Made z c x r
