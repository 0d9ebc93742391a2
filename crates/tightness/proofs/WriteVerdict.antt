-- Wrong bodies of the crate `write_verdict`.
-- Assumes nothing.
use Prim.Native.Nat.{ℕ}
use mathlib.Core.Path.{refl}
use mathlib.Core.Bool.{false}
use mathlib.Core.List.{List, [], ◌∷◌}
use Rattle.std.specs.Prelude.{Option, None}
use Rattle.model.specs.Verdict as judged
use Rattle.base_protocol.specs.declared.Verdict.{Verdict}
use Rattle.base_protocol.specs.declared.Verdict.TheVariants as verdict
use Rattle.table.specs.Lists.{records}
use Rattle.table_chain.specs.declared.Snapshot.{Snapshot}
use Rattle.txn.specs.declared.Phase.TheVariants as phase
use Rattle.txn.specs.declared.Transaction.{Transaction}
use Rattle.txn.specs.View.{snapshot_view, records_in}
use Rattle.txn.specs.Methods.{with_reads}
use Rattle.write_verdict.specs.Judged.{versions_view, verdict_of, first_where, bad_in, changed_record}
use Rattle.tightness.specs.Wrong.{Excludes}
use Rattle.tightness.proofs.Apart.{apart, place_found}
use Rattle.tightness.proofs.Computes.{computes}
use Rattle.tightness.proofs.Small.{live, three_active, three_below, from_xmin, starting}

-- what the contracts of `has_serialization_conflict` and `verdict` ask for
abbrev conflict : List ℕ × List ℕ × Transaction → Option ℕ
conflict (versions, lists, t) = changed_record versions lists t

abbrev judge : List ℕ × List ℕ × List ℕ × Transaction → Verdict
judge (versions, buckets, lists, t) = verdict_of versions buckets lists t

-- transaction 5, with this snapshot, which has read row 0 at version 1, of xmin 2
abbrev reader_in : Snapshot → Transaction
reader_in s = record {
  number = 5;
  snapshot = s;
  marked = false;
  phase = phase.Open;
  slot = 0;
  reads_n = 0;
  writes_n = 0;
  records_n = 1;
  candidates_n = 0;
}

-- its snapshot has this xmax, and 3 active
abbrev reader : ℕ → Transaction
reader xmax = reader_in (three_active xmax)

abbrev read : List ℕ
read = starting records (0 ∷ 1 ∷ 2 ∷ [])

-- version 1 of xmin 2, ended by this number
abbrev ended_by : ℕ → List ℕ
ended_by n = 0 ∷ 0 ∷ 0 ∷ 0 ∷ 0 ∷ 0 ∷ 2 ∷ n ∷ 0 ∷ 1 ∷ 7 ∷ 9 ∷ []

-- `has_serialization_conflict`: a version that the own number ended has changed
pub has-serialization-conflict-own-number : Excludes conflict
    (λ (versions, lists, t). first_where (judged.bad_record (versions_view versions) 0 (snapshot_view t.snapshot)) 0 (records_in lists t))
unfolding computes
has-serialization-conflict-own-number = apart (ended_by 5, read, reader 5) place_found refl

-- `has_serialization_conflict`: the active numbers are not looked at
pub has-serialization-conflict-active-ignored : Excludes conflict
    (λ (versions, lists, t). first_where
    (judged.bad_record (versions_view versions) t.number (record { xmin = t.snapshot.xmin; xmax = t.snapshot.xmax; active = [] })) 0 (records_in lists t))
unfolding computes
has-serialization-conflict-active-ignored = apart (ended_by 3, read, reader 6) place_found refl

-- `has_serialization_conflict`: xmin is trusted, so that no active number below it is looked up
pub has-serialization-conflict-xmin-trusted : Excludes conflict
    (λ (versions, lists, t). first_where
    (judged.bad_record (versions_view versions) t.number
    (record { xmin = t.snapshot.xmin; xmax = t.snapshot.xmax; active = from_xmin t.snapshot })) 0 (records_in lists t))
unfolding computes
has-serialization-conflict-xmin-trusted = apart (ended_by 3, read, reader_in (three_below 6)) place_found refl

-- `has_serialization_conflict`: the place is counted from 1
pub has-serialization-conflict-from-1 : Excludes conflict (λ (versions, lists, t). first_where (bad_in versions t) 1 (records_in lists t))
unfolding computes
has-serialization-conflict-from-1 = apart (ended_by 3, read, reader 6) place_found refl

-- `has_serialization_conflict`: never a conflict
pub has-serialization-conflict-never : Excludes conflict (λ (versions, lists, t). None)
unfolding computes
has-serialization-conflict-never = apart (ended_by 3, read, reader 6) place_found refl

-- a verdict's number
abbrev number_of : Verdict → ℕ
number_of verdict.Clear = 0
number_of (verdict.Bucket b captured present) = 1
number_of (verdict.Row r p) = 2
number_of verdict.Mark = 3

-- captured and present stamp change places
abbrev swapped : Verdict → Verdict
swapped verdict.Clear = verdict.Clear
swapped (verdict.Bucket b captured present) = verdict.Bucket b present captured
swapped (verdict.Row r p) = verdict.Row r p
swapped verdict.Mark = verdict.Mark

abbrev captured_in : Verdict → ℕ
captured_in verdict.Clear = 0
captured_in (verdict.Bucket b captured present) = captured
captured_in (verdict.Row r p) = 0
captured_in verdict.Mark = 0

-- `verdict`: the index reads are not looked at
pub verdict-reads-skipped : Excludes judge (λ (versions, buckets, lists, t). judge (versions, buckets, lists, with_reads t 0))
unfolding computes
verdict-reads-skipped = apart ([], 4 ∷ 0 ∷ [], 0 ∷ 1 ∷ [], with_reads (live 5 phase.Open) 1) number_of refl

-- `verdict`: captured and present stamp change places
pub verdict-stamps-swapped : Excludes judge (λ (versions, buckets, lists, t). swapped (judge (versions, buckets, lists, t)))
unfolding computes
verdict-stamps-swapped = apart ([], 4 ∷ 0 ∷ [], 0 ∷ 1 ∷ [], with_reads (live 5 phase.Open) 1) captured_in refl

-- `verdict`: always clear
pub verdict-always-clear : Excludes judge (λ (versions, buckets, lists, t). verdict.Clear)
unfolding computes
verdict-always-clear = apart (ended_by 3, [], read, reader 6) number_of refl

-- `verdict`: always a conflict
pub verdict-always-conflict : Excludes judge (λ (versions, buckets, lists, t). verdict.Mark)
unfolding computes
verdict-always-conflict = apart ([], [], [], live 5 phase.Open) number_of refl
