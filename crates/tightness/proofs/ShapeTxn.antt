-- Wrong bodies of the crate `shape_txn`.
-- Assumes nothing.
use Prim.Native.Nat.{ℕ}
use mathlib.Core.Path.{refl}
use mathlib.Core.Bool.{Bool, true, ◌&&◌, ◌||◌}
use mathlib.Core.List.{List, []}
use lib.Dec.{eqb, ltb, leb}
use Rattle.base_limits.specs.Limits.{most_index_reads, most_writes, most_records, most_rows}
use Rattle.base_lists.specs.Lists.{every}
use Rattle.model.specs.Store.{rank, phase_installed}
use Rattle.base_protocol.specs.declared.Extent.{Extent}
use Rattle.table.specs.Lists.{write_at}
use Rattle.txn.specs.View.{phase_view}
use Rattle.txn.specs.Methods.{with_writes}
use Rattle.txn.specs.declared.Phase.TheVariants as phase
use Rattle.txn.specs.declared.Transaction.{Transaction}
use Rattle.txn_needs.specs.Keys.{new_key_of, headed_by}
use Rattle.shape_txn.specs.TxnShape.{counts_fit, ranges_fit, least_of, txn_fits, place_fits}
use Rattle.tightness.specs.Wrong.{Excludes}
use Rattle.tightness.proofs.Apart.{apart, bit}
use Rattle.tightness.proofs.Computes.{computes}
use Rattle.tightness.proofs.Small.{live, writer, erases, puts, headed, keyed_by, sizes}

-- `counts_fit`: the pending writes are not counted
pub counts-fit-writes-untested : Excludes counts_fit
    (λ t. leb t.reads_n most_index_reads && leb t.records_n most_records && leb t.candidates_n most_rows)
counts-fit-writes-untested = apart (with_writes (live 1 phase.Open) 17) bit refl

-- `counts_fit`: a list may not be full
pub counts-fit-not-full : Excludes counts_fit (λ t. counts_fit t && ltb t.writes_n most_writes)
counts-fit-not-full = apart (with_writes (live 1 phase.Open) 16) bit refl

-- what place_fits is given: rows, versions, lists, how far the store reaches, and the record
abbrev Given : Type 0
Given = List ℕ × List ℕ × List ℕ × Extent × Transaction

-- the store of one row, one version and one bucket, at this clock and last used pointer
abbrev reach : ℕ → ℕ → Extent
reach clock used = record { sizes = sizes; clock = clock; used = used }

abbrev fits : Given → Bool
fits (rows, versions, lists, e, t) = place_fits rows versions lists e t

-- the other tests, and this one of the pending rows of an Installed or Ended transaction
abbrev rows_tested : (List ℕ → List ℕ → List ℕ → Transaction → ℕ → Bool) → Given → Bool
rows_tested row_fits (rows, versions, lists, e, t) =
    eqb t.number 0
    || (ltb t.number e.clock && eqb t.snapshot.xmin (least_of t) && counts_fit t && ranges_fit lists e t &&
    (ltb (rank (phase_view t.phase)) phase_installed || every t.writes_n (λ i. row_fits rows versions lists t (write_at lists t.slot i).row)))

-- `place_fits`: a free place is tested as a live one is
pub place-fits-free-tested : Excludes fits (λ (rows, versions, lists, e, t). txn_fits rows versions lists e t)
unfolding computes
place-fits-free-tested = apart ([], [], [], reach 0 0, live 0 phase.Open) bit refl

-- `place_fits`: the heads of an Installed transaction's pending rows are not tested
pub place-fits-heads-untested : Excludes fits (rows_tested (λ rows versions lists t r. true))
unfolding computes
place-fits-heads-untested = apart ([], [], puts, reach 2 0, writer phase.Installed) bit refl

-- `place_fits`: an erase of nothing must be headed too
pub place-fits-nothing-headed : Excludes fits (rows_tested (λ rows versions lists t r. headed_by rows versions t.number r))
unfolding computes
place-fits-nothing-headed = apart ([], [], erases, reach 2 0, writer phase.Installed) bit refl

-- `place_fits`: an erase may have any head
pub place-fits-erase-any-head : Excludes fits
    (rows_tested (λ rows versions lists t r. headed_by rows versions t.number r || eqb (new_key_of lists t.slot t.writes_n r).keyed 0))
unfolding computes
place-fits-erase-any-head = apart (headed, keyed_by 3, erases, reach 4 1, writer phase.Installed) bit refl
