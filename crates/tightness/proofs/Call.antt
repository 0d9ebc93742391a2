-- Wrong bodies of the crate `calls`.
-- Assumes nothing.
use Prim.Native.Nat.{ℕ, suc, ◌*◌}
use mathlib.Core.Path.{◌≡◌, refl}
use mathlib.Core.Bool.{true, cond, not}
use mathlib.Core.List.{List, []}
use lib.ListN.{get_or, set}
use Rattle.model.specs.Refusals.{WrongSize, WrongShape}
use Rattle.model.specs.Machine.{can_open}
use Rattle.base_protocol.specs.declared.Step.{Step}
use Rattle.base_protocol.specs.declared.Step.TheVariants as ask
use Rattle.base_protocol.specs.declared.Answer.TheVariants as tell
use Rattle.base_protocol.specs.declared.Sizes.{Sizes}
use Rattle.base_protocol.specs.View.{sizes_view, refusal_told}
use Rattle.table.specs.Fields.{row_words, version_words, bucket_words}
use Rattle.txn.specs.Methods.{idle_of}
use Rattle.txn.specs.declared.Phase.TheVariants as phase
use Rattle.step.specs.Words.{moved_by, words_after}
use Rattle.shape.specs.Shape.{tables_lent, shape_of, words_of}
use Rattle.shape.specs.declared.Machine.{Machine}
use Rattle.call.specs.Calls.{Left, called_by, words_called, call_of, cleared, fresh_of, closed_of, refused_open, open_of}
use Rattle.tightness.specs.Wrong.{Excludes}
use Rattle.tightness.proofs.Apart.{apart, number_in}
use Rattle.tightness.proofs.Computes.{computes}
use Rattle.tightness.proofs.Small.{Lent, over, sizes, lent, machine, shape}

-- `closed`: of the sizes of a store
pub closed-of-sizes : Excludes (λ (u : Unit {0}). closed_of) (λ u. fresh_of sizes 0)
closed-of-sizes = apart tt (λ (m : Machine). m.sizes.rows) refl

-- `closed`: its clock is 1 and not 0
pub closed-clock-1 : Excludes (λ (u : Unit {0}). closed_of) (λ u. fresh_of closed_of.sizes 1)
closed-clock-1 = apart tt (λ (m : Machine). m.clock) refl

-- what open is given: the lent tables, the sizes and the clock
abbrev Given : Type 0
Given = List ℕ × List ℕ × List ℕ × List ℕ × Sizes × ℕ

abbrev opens : Given → Left
opens (rows, versions, buckets, lists, z, clock) = open_of rows versions buckets lists z clock

-- no words at all, and the words of the small store with one in the way
abbrev nothing : Given
nothing = ([], [], [], [], sizes, 1)

abbrev littered : Given
littered = (lent.0, set lent.1 0 9, lent.2, lent.3, sizes, 1)

-- a fresh store over tables that are cleared in part
abbrev opened_over : List ℕ → List ℕ → List ℕ → List ℕ → Sizes → ℕ → Left
opened_over rows versions buckets lists z clock = record { answer = tell.Done; words = words_of rows versions buckets lists [] (fresh_of z clock) }

-- `open`: a table shorter than its size gets 1
pub open-short-is-one : Excludes opens (λ (rows, versions, buckets, lists, z, clock).
    cond (not (can_open (sizes_view z) clock)) (refused_open (refusal_told WrongSize) rows versions buckets lists)
    (cond (not (tables_lent rows versions buckets lists z)) (refused_open (refusal_told WrongSize) rows versions buckets lists)
    (opened_over (cleared (row_words * z.rows) rows) (cleared (version_words * suc z.versions) versions) (cleared (bucket_words * z.buckets) buckets)
    lists z clock)))
unfolding computes
open-short-is-one = apart nothing (λ (l : Left). number_in l.answer) refl

-- `open`: the versions keep what stood there
pub open-versions-kept : Excludes opens (λ (rows, versions, buckets, lists, z, clock).
    cond (not (can_open (sizes_view z) clock)) (refused_open (refusal_told WrongSize) rows versions buckets lists)
    (cond (not (tables_lent rows versions buckets lists z)) (refused_open (refusal_told WrongShape) rows versions buckets lists)
    (opened_over (cleared (row_words * z.rows) rows) versions (cleared (bucket_words * z.buckets) buckets) lists z clock)))
unfolding computes
open-versions-kept = apart littered (λ (l : Left). get_or l.words.tables.versions 0 0) refl

-- what the contract of `call_without_list` asks for, and that of `call` where the lent list is empty: each theorem below is of both
abbrev calls : Lent × Machine × Step → Left
calls (l, m, s) = call_of (over l m) s

-- the shape is not tested
pub call-shape-untested : Excludes calls (λ (l, m, s). record { answer = (called_by (over l m) s).stepped.answer; words = words_called (over l m) s })
unfolding computes call_of shape_of
call-shape-untested = apart (([], [], [], []), closed_of, ask.End 1) (λ (l : Left). number_in l.answer) refl

-- the step is taken, and its record does not go back to its place
pub call-record-lost : Excludes calls
    (λ (l, m, s). record {
      answer = (calls (l, m, s)).answer;
      words =
          record {
            tables = (calls (l, m, s)).words.tables;
            txns = m.txns;
            sizes = m.sizes;
            clock = (calls (l, m, s)).words.clock;
            used = (calls (l, m, s)).words.used;
          };
    })
unfolding computes call_of
call-record-lost = apart (lent, machine phase.Open, ask.Begin) (λ (l : Left). (get_or l.words.txns 1 (idle_of 1)).number) (rw (shape phase.Open refl))

-- the small store with row 0 claimed by its transaction, which has no pending write; its shape is right
abbrev claimed : Lent
claimed = (set lent.0 1 1, lent.1, lent.2, lent.3)

claimed-shape : shape_of (over claimed (machine phase.Open)) ≡ true
unfolding computes shape_of
claimed-shape = refl

-- what carries the number of a transaction that ended is freed only where the transaction lists it
pub call-unswept : Excludes calls
    (λ (l, m, s). cond (shape_of (over l m)) (record { answer = (moved_by (over l m) s).stepped.answer; words = words_after (over l m) s })
    (record { answer = tell.Refused (refusal_told WrongShape); words = over l m }))
unfolding computes call_of
call-unswept = apart (claimed, machine phase.Open, ask.Abort 1) (λ (l : Left). get_or l.words.tables.rows 1 0) (rw claimed-shape)
