-- What validate and prepare answer and leave.
use Rattle.std.specs.Prelude.{ℕ, ◌+◌, Bool, true, false, cond, not, List, ◌++◌, eqb, ltb, replicate}
use Rattle.base_limits.specs.Limits.{most_index_reads, most_writes, most_live}
use Rattle.model.specs.Store.{rank, phase_open}
use Rattle.model.specs.Refusals.{WrongPhase, Taken, NoVersions, Conflict}
use Rattle.base_protocol.specs.View.{refusal_told}
use Rattle.base_protocol.specs.declared.Answer.TheVariants as tell
use Rattle.base_protocol.specs.declared.Extent.{Extent}
use Rattle.base_protocol.specs.declared.Verdict.{Verdict}
use Rattle.base_protocol.specs.declared.Verdict.TheVariants as verdict
use Rattle.txn.specs.View.{phase_view}
use Rattle.txn.specs.Methods.{with_phase, refused_of}
use Rattle.txn.specs.declared.Phase.TheVariants as phase
use Rattle.txn.specs.declared.Transaction.{Transaction}
use Rattle.txn.specs.declared.Answered.{Answered}
use Rattle.txn_needs.specs.Needs.{Listed, push_all, listed_in, front, reads_need, written_by, writes_need}
use Rattle.table.specs.Fields.{set_holders, set_claims}
use Rattle.txn_needs.specs.Taken.{any_taken, any_claimed}
use Rattle.txn_needs.specs.Versions.{versions_in, reserved_in}
use Rattle.write_verdict.specs.Judged.{verdict_of}

-- words for the buckets of all index reads and of the old and the new keys of all pending writes
abbrev pub most_needed : ℕ
most_needed = most_index_reads + most_writes + most_writes

-- a bucket of an index read is held by another
unfoldable pub reads_taken_in : List ℕ → List ℕ → Transaction → Bool
reads_taken_in buckets lists t = any_taken buckets (front (listed_in most_needed (reads_need lists t))) t.number

-- validate: wrong phase, a needed bucket held by another; else the verdict
unfoldable pub validate_of : List ℕ → List ℕ → List ℕ → Transaction → Answered
validate_of versions buckets lists t =
    cond (not (eqb (rank (phase_view t.phase)) phase_open)) (refused_of t (refusal_told WrongPhase))
    (cond (reads_taken_in buckets lists t) (refused_of t (refusal_told Taken))
    (record { answer = tell.Judged (verdict_of versions buckets lists t); txn = t }))

-- no conflict
abbrev pub is_clear : Verdict → Bool
is_clear verdict.Clear = true
is_clear (verdict.Bucket b captured present) = false
is_clear (verdict.Row r p) = false
is_clear verdict.Mark = false

-- used, reserved by others, and the own rows that get a version are above the limit
unfoldable pub lacks : List ℕ → List ℕ → List ℕ → Extent → List ℕ → Transaction → Bool
lacks rows versions lists e prepared t =
    ltb e.sizes.versions (e.used + reserved_in rows versions lists prepared most_live + versions_in rows versions lists t.slot t.writes_n)

-- the buckets that prepare needs, and the same listed
abbrev pub needs : List ℕ → List ℕ → List ℕ → ℕ → Transaction → List ℕ
needs rows versions lists bucket_count t = reads_need lists t ++ writes_need rows versions lists bucket_count t

unfoldable pub needed_into : List ℕ → List ℕ → List ℕ → ℕ → Transaction → List ℕ → Listed
needed_into rows versions lists bucket_count t out = push_all (record { out = out; n = 0 }) (needs rows versions lists bucket_count t)

-- an answer, rows and buckets
pub record Left : Type 0 where
  pub reply : Answered
  pub rows : List ℕ
  pub buckets : List ℕ

abbrev pub left : Answered → List ℕ → List ℕ → Left
left a rows buckets = record { reply = a; rows = rows; buckets = buckets }

-- prepare, with the needed buckets listed: wrong phase; a bucket held or a row claimed by another; a conflict; too few versions; else all is taken
unfoldable pub prepare_with : List ℕ → List ℕ → List ℕ → List ℕ → Extent → List ℕ → Transaction → Listed → Left
prepare_with rows versions buckets lists e prepared t needed =
    cond (any_taken buckets (front needed) t.number) (left (refused_of t (refusal_told Taken)) rows buckets)
    (cond (any_claimed rows lists t) (left (refused_of t (refusal_told Taken)) rows buckets)
    (cond (not (is_clear (verdict_of versions buckets lists t))) (left (refused_of t (refusal_told Conflict)) rows buckets)
    (cond (lacks rows versions lists e prepared t) (left (refused_of t (refusal_told NoVersions)) rows buckets)
    (left (record { answer = tell.Done; txn = with_phase t phase.Prepared }) (set_claims rows t.number (written_by lists t))
    (set_holders buckets t.number (front needed))))))

unfoldable pub prepare_of : List ℕ → List ℕ → List ℕ → List ℕ → Extent → List ℕ → Transaction → Left
prepare_of rows versions buckets lists e prepared t =
    cond (not (eqb (rank (phase_view t.phase)) phase_open)) (left (refused_of t (refusal_told WrongPhase)) rows buckets)
    (prepare_with rows versions buckets lists e prepared t (needed_into rows versions lists e.sizes.buckets t (replicate most_needed 0)))
