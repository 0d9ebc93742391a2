-- Wrong bodies of the crate `read`.
-- Assumes nothing.
use Prim.Native.Nat.{ℕ}
use mathlib.Core.Path.{refl}
use mathlib.Core.Bool.{cond, not}
use mathlib.Core.List.{List, [], ◌∷◌, ◌++◌}
use lib.Dec.{eqb}
use lib.ListN.{get_or, replicate}
use Rattle.model.specs.Store.{rank, phase_collected}
use Rattle.model.specs.Refusals.{WrongPhase}
use Rattle.base_protocol.specs.View.{refusal_told}
use Rattle.base_protocol.specs.declared.Extent.{Extent}
use Rattle.table.specs.Fields.{version_words}
use Rattle.txn.specs.View.{phase_view}
use Rattle.txn.specs.Methods.{with_candidates}
use Rattle.txn.specs.declared.Phase.TheVariants as phase
use Rattle.txn.specs.declared.Transaction.{Transaction}
use Rattle.read_match.specs.Matching.{look}
use Rattle.read.specs.Rows.{matched_rows, LeftRows, refused_rows, answer_of, reading_of, reading_by, rows_of}
use Rattle.tightness.specs.Wrong.{Excludes}
use Rattle.tightness.proofs.Apart.{apart, number_in}
use Rattle.tightness.proofs.Computes.{computes}
use Rattle.tightness.proofs.Small.{live, writer, puts}

-- what rows is given: rows, versions, lists, the lent list, how far the store reaches, the record and the room
abbrev Given : Type 0
Given = List ℕ × List ℕ × List ℕ × List ℕ × Extent × Transaction × ℕ

-- a store of one row, with so many versions used
abbrev reach : ℕ → Extent
reach used = record { sizes = record { rows = 1; versions = 1; buckets = 1 }; clock = 2; used = used }

abbrev reads : Given → LeftRows
reads (rows, versions, lists, found, e, t, room) = rows_of rows versions lists found e t room

-- `rows`: the phase is not tested
pub rows-any-phase : Excludes reads
    (λ (rows, versions, lists, found, e, t, room). reading_of (look rows versions lists (reading_by e t room)) found e.sizes.rows)
unfolding computes
rows-any-phase = apart ([], [], [], [], reach 0, live 1 phase.Open, 0) (λ (l : LeftRows). number_in l.reply.answer) refl

-- `rows`: the found rows do not go to the lent list
pub rows-not-lent : Excludes reads (λ (rows, versions, lists, found, e, t, room). let l =
    reads (rows, versions, lists, found, e, t, room) in record { reply = l.reply; lists = l.lists; found = found })
unfolding computes
rows-not-lent = apart ([], [], puts, 9 ∷ [], reach 0, writer (phase.Collected 5), 1) (λ (l : LeftRows). get_or l.found 0 0) refl

-- a version that is seen and has key 5, of row 0, which is a candidate
abbrev seen : Given
seen = (
  1 ∷ 0 ∷ 1 ∷ 5 ∷ 0 ∷ 0 ∷ [],
  replicate version_words 0 ++ 1 ∷ 0 ∷ 0 ∷ 1 ∷ 5 ∷ 9 ∷ [],
  [],
  9 ∷ [],
  reach 1,
  with_candidates (live 1 (phase.Collected 5)) 1,
  1,
)

-- `rows`: the version read is not recorded
pub rows-unrecorded : Excludes reads (λ (rows, versions, lists, found, e, t, room).
    cond (not (eqb (rank (phase_view t.phase)) phase_collected)) (refused_rows lists found t (refusal_told WrongPhase))
    (answer_of lists found (matched_rows (look rows versions lists (reading_by e t room)) e.sizes.rows) [] (reading_by e t room)))
unfolding computes
rows-unrecorded = apart seen (λ (l : LeftRows). l.reply.txn.records_n) refl
