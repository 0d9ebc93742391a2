-- Wrong bodies of the crate `write_prepare`.
-- Assumes nothing.
use Prim.Native.Nat.{ℕ, ◌+◌}
use mathlib.Core.Path.{refl}
use mathlib.Core.Bool.{cond, not}
use mathlib.Core.List.{List, [], ◌∷◌}
use lib.Dec.{eqb, ltb}
use lib.ListN.{get_or, replicate}
use Rattle.base_limits.specs.Limits.{most_live, most_writes}
use Rattle.model.specs.Store.{rank, phase_open}
use Rattle.model.specs.Refusals.{WrongPhase, Taken, NoVersions}
use Rattle.base_protocol.specs.View.{refusal_told}
use Rattle.base_protocol.specs.declared.Answer.TheVariants as tell
use Rattle.base_protocol.specs.declared.Extent.{Extent}
use Rattle.table.specs.Fields.{row_words, set_claims}
use Rattle.txn.specs.View.{phase_view}
use Rattle.txn.specs.Methods.{with_reads, refused_of}
use Rattle.txn.specs.declared.Phase.TheVariants as phase
use Rattle.txn.specs.declared.Transaction.{Transaction}
use Rattle.txn.specs.declared.Answered.{Answered}
use Rattle.txn_needs.specs.Needs.{front}
use Rattle.txn_needs.specs.Versions.{pending_into, versions_into}
use Rattle.write_verdict.specs.Judged.{verdict_of}
use Rattle.write_prepare.specs.Prepare.{reads_taken_in, validate_of, needed_into, Left, left, most_needed, prepare_with, prepare_of}
use Rattle.tightness.specs.Wrong.{Excludes}
use Rattle.tightness.proofs.Apart.{apart, number_in}
use Rattle.tightness.proofs.Computes.{computes}
use Rattle.tightness.proofs.Small.{live, writer, erases, puts}

-- an Open transaction 1 that has captured bucket 0 at stamp 0: its words in lists, and the bucket's words with a holder
abbrev reader : Transaction
reader = with_reads (live 1 phase.Open) 1

abbrev captured : List ℕ
captured = 0 ∷ 0 ∷ []

abbrev held_by : ℕ → List ℕ
held_by n = 0 ∷ n ∷ []

-- what validate is given: versions, buckets, lists and the record
abbrev Validated : Type 0
Validated = List ℕ × List ℕ × List ℕ × Transaction

abbrev validates : Validated → Answered
validates (versions, buckets, lists, t) = validate_of versions buckets lists t

-- `validate`: the phase is not tested
pub validate-any-phase : Excludes validates (λ (versions, buckets, lists, t).
    cond (reads_taken_in buckets lists t) (refused_of t (refusal_told Taken))
    (record { answer = tell.Judged (verdict_of versions buckets lists t); txn = t }))
unfolding computes
validate-any-phase = apart ([], [], [], live 1 phase.Ended) (λ (a : Answered). number_in a.answer) refl

-- `validate`: a bucket that another holds is read
pub validate-held-read : Excludes validates (λ (versions, buckets, lists, t).
    cond (not (eqb (rank (phase_view t.phase)) phase_open)) (refused_of t (refusal_told WrongPhase))
    (record { answer = tell.Judged (verdict_of versions buckets lists t); txn = t }))
unfolding computes
validate-held-read = apart ([], held_by 2, captured, reader) (λ (a : Answered). number_in a.answer) refl

-- what prepare is given: the tables, how far the store reaches, what is reserved, the record
abbrev Given : Type 0
Given = List ℕ × List ℕ × List ℕ × List ℕ × Extent × List ℕ × Transaction

abbrev prepares : Given → Left
prepares (rows, versions, buckets, lists, e, prepared, t) = prepare_of rows versions buckets lists e prepared t

-- in one bucket, with so many versions to give
abbrev reaching : ℕ → Extent
reaching n = record { sizes = record { rows = 1; versions = n; buckets = 1 }; clock = 2; used = 0 }

abbrev given : List ℕ → List ℕ → List ℕ → Transaction → Given
given rows buckets lists t = (rows, [], buckets, lists, reaching 1, replicate most_live 0, t)

-- `prepare`: the phase is not tested
pub prepare-any-phase : Excludes prepares
    (λ (rows, versions, buckets, lists, e, prepared, t). prepare_with rows versions buckets lists e prepared t
    (needed_into rows versions lists e.sizes.buckets t (replicate most_needed 0)))
unfolding computes
prepare-any-phase = apart (given [] [] [] (live 1 phase.Ended)) (λ (l : Left). number_in l.reply.answer) refl

-- `prepare`: the needed buckets are not taken
pub prepare-buckets-free : Excludes prepares (λ (rows, versions, buckets, lists, e, prepared, t). let l =
    prepares (rows, versions, buckets, lists, e, prepared, t) in left l.reply l.rows buckets)
unfolding computes
prepare-buckets-free = apart (given [] (held_by 0) captured reader) (λ (l : Left). get_or l.buckets 1 0) refl

-- `prepare`: the pending rows are not claimed
pub prepare-rows-unclaimed : Excludes prepares (λ (rows, versions, buckets, lists, e, prepared, t). let l =
    prepares (rows, versions, buckets, lists, e, prepared, t) in left l.reply rows l.buckets)
unfolding computes
prepare-rows-unclaimed = apart (given (replicate row_words 0) [] puts (writer phase.Open)) (λ (l : Left). get_or l.rows 1 0) refl

-- `prepare`: 13 counts an erase of nothing
pub prepare-13-of-nothing : Excludes prepares (λ (rows, versions, buckets, lists, e, prepared, t).
    cond (ltb e.sizes.versions (e.used + (pending_into lists t.slot t.writes_n (replicate most_writes 0)).n))
    (left (refused_of t (refusal_told NoVersions)) rows buckets)
    (prepares (rows, versions, buckets, lists, e, prepared, t)))
unfolding computes
prepare-13-of-nothing = apart ([], [], [], erases, reaching 0, replicate most_live 0, writer phase.Open) (λ (l : Left). number_in l.reply.answer) refl

-- `prepare`: the row of an erase of nothing is not claimed
pub prepare-nothing-unclaimed : Excludes prepares (λ (rows, versions, buckets, lists, e, prepared, t). let l =
    prepares (rows, versions, buckets, lists, e, prepared, t) in
    left l.reply (set_claims rows t.number (front (versions_into rows versions lists t.slot t.writes_n (replicate most_writes 0)))) l.buckets)
unfolding computes
prepare-nothing-unclaimed = apart (given (replicate row_words 0) [] erases (writer phase.Open)) (λ (l : Left). get_or l.rows 1 0) refl
