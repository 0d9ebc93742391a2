-- Wrong bodies of the crate `finish_publish`.
-- Assumes nothing.
use Prim.Native.Nat.{ℕ}
use mathlib.Core.Path.{refl}
use mathlib.Core.Bool.{cond, not}
use mathlib.Core.List.{List, [], ◌∷◌}
use lib.Dec.{eqb}
use lib.ListN.{get_or, set}
use Rattle.model.specs.Store.{rank, phase_installed}
use Rattle.model.specs.Refusals.{WrongPhase}
use Rattle.base_protocol.specs.View.{refusal_told}
use Rattle.base_protocol.specs.declared.Answer.TheVariants as tell
use Rattle.base_protocol.specs.declared.Extent.{Extent}
use Rattle.table.specs.Fields.{clear_claims}
use Rattle.txn.specs.View.{phase_view}
use Rattle.txn.specs.Methods.{with_phase, refused_of}
use Rattle.txn.specs.declared.Phase.{Phase}
use Rattle.txn.specs.declared.Phase.TheVariants as phase
use Rattle.txn.specs.declared.Transaction.{Transaction}
use Rattle.txn.specs.declared.Answered.{Answered}
use Rattle.txn_needs.specs.Needs.{written_by}
use Rattle.finish_publish.specs.Publish.{Left, freed_in, end_of, publish_of, abort_of}
use Rattle.tightness.specs.Wrong.{Excludes}
use Rattle.tightness.proofs.Apart.{apart, number_in}
use Rattle.tightness.proofs.Computes.{computes}
use Rattle.tightness.proofs.Small.{live, writer, puts, keyed_by}

-- `end`: the phase is not tested
pub end-any-phase : Excludes end_of (λ t. record { answer = tell.Done; txn = with_phase t phase.Ended })
unfolding computes
end-any-phase = apart (live 1 phase.Open) (λ (a : Answered). number_in a.answer) refl

-- `end`: the transaction stays Installed
pub end-stays-installed : Excludes end_of
    (λ t. cond (not (eqb (rank (phase_view t.phase)) phase_installed)) (refused_of t (refusal_told WrongPhase)) (record { answer = tell.Done; txn = t }))
unfolding computes
end-stays-installed = apart (live 1 phase.Installed) (λ (a : Answered). rank (phase_view a.txn.phase)) refl

-- row 0 headed by version 1 and claimed by transaction 1, with no posting and an empty list
abbrev claimed : List ℕ
claimed = 1 ∷ 1 ∷ 0 ∷ 0 ∷ 0 ∷ 0 ∷ []

-- bucket 0 held by it
abbrev held : List ℕ
held = 0 ∷ 1 ∷ []

-- the claim of row 0 afterwards, its posting and the first row of its list, and the holder of bucket 0 and its stamp
abbrev claim : Left → ℕ
claim l = get_or l.rows 1 0

abbrev posted : Left → ℕ
posted l = get_or l.rows 2 0

abbrev first : Left → ℕ
first l = get_or l.rows 5 0

abbrev holder : Left → ℕ
holder l = get_or l.buckets 1 0

abbrev stamp : Left → ℕ
stamp l = get_or l.buckets 0 0

-- what publish is given: the tables, how far the store reaches, the record; abort takes of the extent only the bucket count
abbrev Given : Type 0
Given = List ℕ × List ℕ × List ℕ × List ℕ × Extent × Transaction

abbrev given : Phase → Given
given ph = (claimed, keyed_by 1, held, puts, record { sizes = record { rows = 1; versions = 1; buckets = 1 }; clock = 2; used = 1 }, writer ph)

abbrev publishes : Given → Left
publishes (rows, versions, buckets, lists, e, t) = publish_of rows versions buckets lists e t

abbrev aborts : Given → Left
aborts (rows, versions, buckets, lists, e, t) = abort_of rows versions buckets lists e.sizes.buckets t

-- `publish`: the place does not become free
pub publish-record-kept : Excludes publishes (λ (rows, versions, buckets, lists, e, t). let l =
    publishes (rows, versions, buckets, lists, e, t) in
    record { reply = record { answer = l.reply.answer; txn = t }; rows = l.rows; buckets = l.buckets })
unfolding computes
publish-record-kept = apart (given phase.Ended) (λ (l : Left). l.reply.txn.number) refl

-- `publish`: the claims stay
pub publish-claims-kept : Excludes publishes (λ (rows, versions, buckets, lists, e, t). let l =
    publishes (rows, versions, buckets, lists, e, t) in record { reply = l.reply; rows = rows; buckets = l.buckets })
unfolding computes
publish-claims-kept = apart (given phase.Ended) claim refl

-- `publish`: the buckets of changed keys are not stamped
pub publish-unstamped : Excludes publishes (λ (rows, versions, buckets, lists, e, t). let l =
    publishes (rows, versions, buckets, lists, e, t) in record {
      reply = l.reply;
      rows = l.rows;
      buckets = freed_in rows versions buckets lists e.sizes.buckets t;
    })
unfolding computes
publish-unstamped = apart (given phase.Ended) stamp refl

-- `publish`: the postings move, and list 0 is headed as before
pub publish-list-headed-before : Excludes publishes (λ (rows, versions, buckets, lists, e, t). let l =
    publishes (rows, versions, buckets, lists, e, t) in
    record { reply = l.reply; rows = set l.rows 5 (get_or rows 5 0); buckets = l.buckets })
unfolding computes
publish-list-headed-before = apart (given phase.Ended) first refl

-- `publish`: the postings stay
pub publish-postings-kept : Excludes publishes (λ (rows, versions, buckets, lists, e, t). let l =
    publishes (rows, versions, buckets, lists, e, t) in
    record { reply = l.reply; rows = clear_claims rows t.number (written_by lists t); buckets = l.buckets })
unfolding computes
publish-postings-kept = apart (given phase.Ended) posted refl

-- `abort`: the place does not become free
pub abort-record-kept : Excludes aborts (λ (rows, versions, buckets, lists, e, t). let l =
    aborts (rows, versions, buckets, lists, e, t) in
    record { reply = record { answer = l.reply.answer; txn = t }; rows = l.rows; buckets = l.buckets })
unfolding computes
abort-record-kept = apart (given phase.Open) (λ (l : Left). l.reply.txn.number) refl

-- `abort`: the claims stay
pub abort-claims-kept : Excludes aborts (λ (rows, versions, buckets, lists, e, t). let l =
    aborts (rows, versions, buckets, lists, e, t) in record { reply = l.reply; rows = rows; buckets = l.buckets })
unfolding computes
abort-claims-kept = apart (given phase.Prepared) claim refl

-- `abort`: the buckets stay held
pub abort-buckets-held : Excludes aborts (λ (rows, versions, buckets, lists, e, t). let l =
    aborts (rows, versions, buckets, lists, e, t) in record { reply = l.reply; rows = l.rows; buckets = buckets })
unfolding computes
abort-buckets-held = apart (given phase.Prepared) holder refl
