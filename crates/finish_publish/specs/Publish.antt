-- What end, publish and abort leave.
use Rattle.std.specs.Prelude.{ℕ, ◌+◌, cond, not, List, [], ◌∷◌, ◌++◌, eqb, leb, replicate}
use Rattle.base_limits.specs.Limits.{most_index_reads, most_writes}
use Rattle.model.specs.Store.{rank, phase_installed, phase_ended, bucket_in}
use Rattle.model.specs.Refusals.{WrongPhase}
use Rattle.base_protocol.specs.View.{refusal_told}
use Rattle.base_protocol.specs.declared.Answer.TheVariants as tell
use Rattle.base_protocol.specs.declared.Extent.{Extent}
use Rattle.txn.specs.View.{phase_view}
use Rattle.txn.specs.Methods.{idle_of, with_phase, refused_of}
use Rattle.txn.specs.declared.Phase.TheVariants as phase
use Rattle.txn.specs.declared.Transaction.{Transaction}
use Rattle.txn.specs.declared.Answered.{Answered}
use Rattle.txn_needs.specs.Keys.{new_key_of}
use Rattle.txn_needs.specs.Needs.{Listed, push_all, listed_in, front, reads_need, written_by, writes_need, writes_change}
use Rattle.table.specs.Fields.{set_stamps, clear_holders, clear_claims}
use Rattle.table_postings.specs.Links.{reposted}

-- end: wrong phase; else Ended
unfoldable pub end_of : Transaction → Answered
end_of t = cond (not (eqb (rank (phase_view t.phase)) phase_installed)) (refused_of t (refusal_told WrongPhase))
    (record { answer = tell.Done; txn = with_phase t phase.Ended })

-- the posting of one row, and of every pending one, follows its new key, from list to list
unfoldable pub posted_one : List ℕ → List ℕ → ℕ → Transaction → ℕ → List ℕ
posted_one rows lists row_count t r =
    let k = new_key_of lists t.slot t.writes_n r in
    reposted rows row_count r k.keyed k.key

unfoldable pub posted_all : List ℕ → List ℕ → ℕ → Transaction → List ℕ → List ℕ
posted_all rows lists row_count t [] = rows
posted_all rows lists row_count t (r ∷ rs) = posted_all (posted_one rows lists row_count t r) lists row_count t rs

-- words for the buckets that a transaction needs, and for the one that Holding carries
abbrev pub most_held : ℕ
most_held = most_index_reads + most_writes + most_writes + 1

-- the buckets of the pending rows whose key changed get the clock as their stamp
unfoldable pub stamped_in : List ℕ → List ℕ → List ℕ → List ℕ → Extent → Transaction → List ℕ
stamped_in rows versions buckets lists e t = set_stamps buckets e.clock (front (listed_in most_held (writes_change rows versions lists e.sizes.buckets t)))

-- what a transaction needs of the buckets, listed, and its holders freed
unfoldable pub needed_in : List ℕ → List ℕ → List ℕ → ℕ → Transaction → List ℕ
needed_in rows versions lists bucket_count t = (bucket_in (phase_view t.phase) ∷ []) ++ reads_need lists t ++ writes_need rows versions lists bucket_count t

abbrev pub held_into : List ℕ → List ℕ → List ℕ → ℕ → Transaction → List ℕ → Listed
held_into rows versions lists bucket_count t out = push_all (record { out = out; n = 0 }) (needed_in rows versions lists bucket_count t)

unfoldable pub freed_in : List ℕ → List ℕ → List ℕ → List ℕ → ℕ → Transaction → List ℕ
freed_in rows versions buckets lists bucket_count t =
    clear_holders buckets t.number (front (held_into rows versions lists bucket_count t (replicate most_held 0)))

-- an answer, rows and buckets
pub record Left : Type 0 where
  pub reply : Answered
  pub rows : List ℕ
  pub buckets : List ℕ

-- publish: wrong phase; else changed buckets are stamped, buckets freed, postings moved, claims freed, and the record ends
unfoldable pub publish_of : List ℕ → List ℕ → List ℕ → List ℕ → Extent → Transaction → Left
publish_of rows versions buckets lists e t =
    cond (not (eqb (rank (phase_view t.phase)) phase_ended)) (record { reply = refused_of t (refusal_told WrongPhase); rows = rows; buckets = buckets })
    (record {
      reply = record { answer = tell.Stamp e.clock; txn = idle_of t.slot };
      rows = clear_claims (posted_all rows lists e.sizes.rows t (written_by lists t)) t.number (written_by lists t);
      buckets = freed_in rows versions (stamped_in rows versions buckets lists e t) lists e.sizes.buckets t;
    })

-- abort: wrong phase; else buckets and claims are freed, and the record ends
unfoldable pub abort_of : List ℕ → List ℕ → List ℕ → List ℕ → ℕ → Transaction → Left
abort_of rows versions buckets lists bucket_count t =
    cond (leb phase_installed (rank (phase_view t.phase))) (record { reply = refused_of t (refusal_told WrongPhase); rows = rows; buckets = buckets })
    (record {
      reply = record { answer = tell.Done; txn = idle_of t.slot };
      rows = clear_claims rows t.number (written_by lists t);
      buckets = freed_in rows versions buckets lists bucket_count t;
    })
