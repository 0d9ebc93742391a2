-- Runs that compute: one where `history_maps_snapshot` is false, and those that meet the premises of the facts here.
-- Assumes nothing.
use Prim.Native.Nat.{ℕ, ◌≤◌}
use mathlib.Core.Path.{◌≡◌, refl}
use mathlib.Core.Bool.{true, false}
use mathlib.Core.Option.{none, some}
use mathlib.Core.List.{List, [], ◌∷◌}
use native.Mathlib.Omega.{arith}
use lib.Dec.{eqb, leb}
use borrow.Author.Tests.{eq-eqb, le-leb}
use Rattle.base_limits.specs.Limits.{most_live}
use Rattle.base_lists.specs.Lists.{pick}
use Rattle.base_lists.proofs.ListLaws.{which-pick}
use Rattle.model.specs.Store.{Sizes, Holding, Ended, Store, fresh, rank, phase_installed, bucket_of}
use Rattle.model.specs.Seeing.{pending, Live}
use Rattle.model.specs.Verdict.{bad_read}
use Rattle.model.specs.Steps.{found_rows, records_after, changed_buckets}
use Rattle.model.specs.Upstream.{creator_visible, row_visible, first_row, snapshot_rows}
use Rattle.model.specs.History.{add_events, step_events, history_over, history, changing}
use Rattle.model.specs.Refusals.{Step, begin, capture, collect, rows, put, prepare, install, end, publish, txn_of}
use Rattle.model.specs.Shape.{good_sizes}
use Rattle.model.specs.Machine.{Rows, step, run, can_open}
use Rattle.model.specs.Given.{number}
use Rattle.model.proofs.Computes.{computes}
use Rattle.model.proofs.Numbers.{in-place}
use Rattle.model.proofs.Good.{Good, opened-good}
use Rattle.model_upstream.specs.Clauses.{Gone, Others, affects, stored_snapshot_key, HistoryMapsSnapshot}
use Rattle.model_upstream.specs.Protocol.{actions}
use Rattle.model_upstream.specs.Valid.{HistoryValid}
use Rattle.model_upstream.proofs.Ownership.{no-resurrection}
use Rattle.model_upstream.proofs.Histories.{history-valid}

abbrev pub sizes : Sizes
sizes = record { rows = 4; versions = 8; buckets = 4 }

-- transaction 1 writes key 6 into row 2 and ends; before it publishes, transaction 2 begins, and sees the version
abbrev pub waiting : List Step
waiting = begin ∷ put 1 2 6 10 ∷ prepare 1 ∷ install 1 ∷ end 1 ∷ begin ∷ []

abbrev pub waits : Store
waits = run (fresh sizes 1) waiting

waiting-keys : (stored_snapshot_key waits.chains (txn_of waits 2) 2 ≡ some 6)
    × (snapshot_rows (λ r. none) (history (fresh sizes 1) waiting) (txn_of waits 2) 2 ≡ none)
unfolding computes creator_visible row_visible first_row snapshot_rows add_events step_events history_over
waiting-keys = (refl, refl)

-- `history_maps_snapshot` is false there: the store could be opened, transaction 2 is live, and 1, which has Ended, still holds the bucket of key 6
pub unmapped : (can_open sizes 1 ≡ true) × ((txn_of waits 2).number ≡ 2) × ((txn_of waits 1).phase ≡ Ended) × (waits.held.holder 2 ≡ 1)
    × (HistoryMapsSnapshot waits (txn_of waits 2) (history (fresh sizes 1) waiting) → ⊥)
unfolding computes
unmapped = (refl, refl, refl, refl, λ h. let e = h 2 (omega arith) in let z : ◌≡◌ {A = ℕ} 0 1 = cc (waiting-keys.0, waiting-keys.1) in omega arith)

-- transaction 1 publishes key 6 in row 2, and 3 begins; it captures the key, while 4 writes a key of the same bucket; it collects and reads; then 4 publishes
abbrev pub s₀ : Store
s₀ = run (fresh sizes 1) (begin ∷ put 1 2 6 10 ∷ prepare 1 ∷ install 1 ∷ end 1 ∷ publish 1 ∷ begin ∷ [])

abbrev pub s₁ : Store
s₁ = (step s₀ (capture 3 6)).store

-- steps of others than 3
abbrev pub others : List Step
others = begin ∷ put 4 0 2 7 ∷ capture 4 6 ∷ []

abbrev pub s₂ : Store
s₂ = run s₁ others

abbrev pub s₃ : Store
s₃ = (step s₂ (collect 3)).store

abbrev pub s₄ : Store
s₄ = (step s₃ (rows 3 4)).store

abbrev pub s₅ : Store
s₅ = run s₄ (prepare 4 ∷ install 4 ∷ end 4 ∷ [])

-- all of these steps
abbrev pub told : List Step
told = begin ∷ put 1 2 6 10 ∷ prepare 1 ∷ install 1 ∷ end 1 ∷ publish 1 ∷ begin ∷ capture 3 6 ∷ begin ∷ put 4 0 2 7 ∷ capture 4 6 ∷ collect 3 ∷ rows 3 4
    ∷ prepare 4 ∷ install 4 ∷ end 4 ∷ publish 4 ∷ []

abbrev pub s₆ : Store
s₆ = run (fresh sizes 1) told

pub whole_run : (step s₅ (publish 4)).store ≡ s₆
unfolding run
whole_run = refl

-- Ownership: a capture that is done, a bucket that is held, one that is refused to another, steps of others, a collect that is done
pub ownership-met : (number s₀ (capture 3 6) ≡ 0) × (s₁.held.holder 2 ≡ 3) × Others 3 others × (number s₂ (capture 4 6) ≡ 7) × (number s₂ (collect 3) ≡ 0)
unfolding computes
ownership-met = (refl, refl, ((λ e. omega (arith, e)), ((λ e. omega (arith, e)), ((λ e. omega (arith, e)), tt))), refl, refl)

-- Mapped: a transaction that holds the bucket of a key, and sees a row with it
pub holding-met : ((s₁.txns 0).phase ≡ Holding (bucket_of sizes 6) 6) × (stored_snapshot_key s₁.chains (s₁.txns 0) 2 ≡ some 6)
unfolding computes creator_visible row_visible first_row
holding-met = (refl, refl)

-- Capture: one that is refused for its stamp
pub capture-met : number s₆ (capture 3 6) ≡ 8
unfolding computes
capture-met = refl

-- three captures, of two buckets: two index reads, of distinct buckets
pub two-reads : ((run (fresh sizes 1) (begin ∷ capture 1 6 ∷ collect 1 ∷ rows 1 4 ∷ capture 1 3 ∷ collect 1 ∷ rows 1 4 ∷ capture 1 6 ∷ [])).txns 0).reads
    ≡ record { bucket = 2; stamp = 0 } ∷ record { bucket = 3; stamp = 0 } ∷ []
unfolding computes
two-reads = refl

-- Lookup: a read that records a version, and one whose only row has a pending write
pub lookup-met : let own = run (fresh sizes 1) (begin ∷ put 1 2 6 10 ∷ capture 1 6 ∷ collect 1 ∷ []) in
    (records_after s₃ (txn_of s₃ 3) ≡ record { row = 2; ptr = 1; xmin = 1 } ∷ []) × (found_rows own (txn_of own 1) ≡ 2 ∷ [])
    × (pending (txn_of own 1).writes 2 ≡ true)
unfolding computes
lookup-met = (refl, refl, refl)

-- Predicate: a publish that is done, changes one bucket, which a live transaction has read, and leaves another
pub publish-met : (number s₅ (publish 4) ≡ 0) × (changed_buckets s₅ (txn_of s₅ 4) ≡ 2 ∷ []) × (s₅.index.stamp 2 ≡ 2) × (s₆.index.stamp 2 ≡ 5)
    × ((txn_of s₆ 3).reads ≡ record { bucket = 2; stamp = 2 } ∷ []) × ((txn_of s₆ 3).number ≡ 3)
unfolding computes
publish-met = (refl, refl, refl, refl, refl, refl)

-- Composition: rows that are answered, and an unmarked transaction whose one index read is bad
pub composition-met : ((step s₃ (rows 3 4)).answer ≡ Rows (2 ∷ [])) × ((txn_of s₆ 3).marked ≡ false)
    × (bad_read s₆.index 3 (record { bucket = 2; stamp = 2 }) ≡ true)
unfolding computes
composition-met = (refl, refl, refl)

-- the run is from a store that could be opened
good : Good s₆
unfolding computes
good = opened-good sizes 1 told refl (omega arith)

-- after it no place has the number 4, and nobody has installed
none_left : (pick (λ w. eqb (s₆.txns w).number 4) 0 most_live ≡ []) × (pick (λ w. leb phase_installed (rank (s₆.txns w).phase)) 0 most_live ≡ [])
    × (s₆.clock ≡ 6) × ((s₆.txns 0).number ≡ 3)
unfolding computes
none_left = (refl, refl, refl, refl)

-- no resurrection: 4 has gone, and stays so
pub gone-met : (more : List Step) → Gone (run s₆ more) 4
gone-met more = no-resurrection s₆ good 4 (λ e. omega (arith, e)) (omega (arith, none_left.2))
    (λ j e. rw none_left.0 at
    (which-pick (λ w. eqb (s₆.txns w).number 4) 0 most_live j (omega arith)
    (omega (arith, in-place s₆.clock s₆.txns good.numbers j (omega (arith, e)))) (eq-eqb _ 4 e))) more

not-installed : (w : ℕ) → Live (s₆.txns w) → phase_installed ≤ rank (s₆.txns w).phase → ⊥
not-installed w l h = rw none_left.1 at
    (which-pick (λ v. leb phase_installed (rank (s₆.txns v).phase)) 0 most_live w (omega arith)
    (omega (arith, in-place s₆.clock s₆.txns good.numbers w l)) (le-leb phase_installed (rank (s₆.txns w).phase) h))

-- the history of the run is valid for transaction 3
pub valid-met : HistoryValid 1 s₆ (s₆.txns 0) (history (fresh sizes 1) told) (actions (fresh sizes 1) told)
unfolding can_open good_sizes
valid-met = history-valid sizes 1 told refl (omega arith) 0 (omega (arith, none_left.3)) (λ r b w u. absurd (not-installed w u.0 u.1))

-- it has two events that change the key of a bucket, and each affects its key
pub events-met : (changing (history (fresh sizes 1) told) ≡ record { row = 0; before = none; after = some 2; creator = 4; stamp = 5 }
    ∷ record { row = 2; before = none; after = some 6; creator = 1; stamp = 2 } ∷ [])
    × (affects 2 (record { row = 0; before = none; after = some 2; creator = 4; stamp = 5 }) ≡ true)
unfolding computes add_events step_events history_over changing affects
events-met = (refl, refl)

-- chronology: transaction 1 was active when 2 began, and publishes
pub chronology-met : let s = begin ∷ begin ∷ put 1 2 6 10 ∷ prepare 1 ∷ install 1 ∷ end 1 ∷ publish 1 ∷ [] in
    (((run (fresh sizes 1) s).txns 1).snapshot.active ≡ 1 ∷ []) × (((run (fresh sizes 1) s).txns 1).number ≡ 2)
    × (history (fresh sizes 1) s ≡ record { row = 2; before = none; after = some 6; creator = 1; stamp = 3 } ∷ [])
unfolding computes add_events step_events history_over
chronology-met = (refl, refl, refl)
