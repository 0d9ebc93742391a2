-- The small records, lists and stores on which two outcomes are told apart.
-- Assumes nothing.
use Prim.Native.Nat.{ℕ, suc, ◌-◌, ◌*◌}
use mathlib.Core.Path.{◌≡◌, refl}
use mathlib.Core.Bool.{true, false}
use mathlib.Core.List.{List, [], ◌∷◌, ◌++◌}
use lib.ListN.{replicate, set}
use Rattle.base_limits.specs.Limits.{most_active}
use Rattle.base_lists.specs.Lists.{member, pick}
use Rattle.model.specs.Store.{bucket_in}
use Rattle.base_protocol.specs.declared.Sizes.{Sizes}
use Rattle.table.specs.Fields.{row_words, version_words, bucket_words}
use Rattle.table.specs.Lists.{Kind, writes, lists_words}
use Rattle.table_chain.specs.Chain.{active_of}
use Rattle.table_chain.specs.declared.Snapshot.{Snapshot}
use Rattle.txn.specs.View.{phase_view}
use Rattle.txn.specs.Methods.{with_writes}
use Rattle.txn.specs.declared.Phase.{Phase}
use Rattle.txn.specs.declared.Phase.TheVariants as phase
use Rattle.txn.specs.declared.Transaction.{Transaction}
use Rattle.txn_places.specs.Places.{free_places}
use Rattle.step.specs.Words.{Words}
use Rattle.shape.specs.Shape.{shape_of, words_of}
use Rattle.shape.specs.declared.Machine.{Machine}
use Rattle.tightness.proofs.Computes.{computes}

-- transaction n of slot 0 in this phase, with snapshot xmax n + 1, none active and nothing in its lists
abbrev pub live : ℕ → Phase → Transaction
live n ph = record {
  number = n;
  snapshot = record { xmin = n; xmax = suc n; active = replicate most_active 0; active_n = 0 };
  marked = false;
  phase = ph;
  slot = 0;
  reads_n = 0;
  writes_n = 0;
  records_n = 0;
  candidates_n = 0;
}

-- transaction 1 with one pending write
abbrev pub writer : Phase → Transaction
writer ph = with_writes (live 1 ph) 1

-- the snapshot of this xmax in which 3 is active
abbrev pub three_active : ℕ → Snapshot
three_active xmax = record { xmin = 3; xmax = xmax; active = 3 ∷ replicate (most_active - 1) 0; active_n = 1 }

-- the same with an xmin above 3: no begin takes it
abbrev pub three_below : ℕ → Snapshot
three_below xmax = record { xmin = 4; xmax = xmax; active = 3 ∷ replicate (most_active - 1) 0; active_n = 1 }

-- a snapshot's active numbers that are not below its xmin
abbrev pub from_xmin : Snapshot → List ℕ
from_xmin s = pick (λ n. member n (active_of s)) s.xmin s.xmax

-- slot 0's lists up to a list's start, and these words there
abbrev pub starting : Kind → List ℕ → List ℕ
starting k vs = replicate k.off 0 ++ vs

-- room for one entry of a list
abbrev pub room_for : Kind → List ℕ
room_for k = starting k (replicate k.w 0)

-- one pending write of row 0: an erase, and a put of key 5 and payload 9
abbrev pub erases : List ℕ
erases = room_for writes

abbrev pub puts : List ℕ
puts = starting writes (0 ∷ 1 ∷ 5 ∷ 9 ∷ [])

-- row 0 headed by version 1, and that version: made by this number, open, of key 6; and erased
abbrev pub headed : List ℕ
headed = 1 ∷ 0 ∷ 0 ∷ 0 ∷ 0 ∷ 0 ∷ []

abbrev pub keyed_by : ℕ → List ℕ
keyed_by n = replicate version_words 0 ++ (n ∷ 0 ∷ 0 ∷ 1 ∷ 6 ∷ 0 ∷ [])

abbrev pub erased_by : ℕ → List ℕ
erased_by n = replicate version_words 0 ++ (n ∷ 0 ∷ 0 ∷ 0 ∷ 0 ∷ 0 ∷ [])

-- two pending writes of row 0, of key 6 and of key 7
abbrev pub twice : List ℕ
twice = starting writes (0 ∷ 1 ∷ 6 ∷ 9 ∷ 0 ∷ 1 ∷ 7 ∷ 9 ∷ [])

-- the lent tables, rows, versions, buckets and lists, and the words of a store over them
abbrev pub Lent : Type 0
Lent = List ℕ × List ℕ × List ℕ × List ℕ

abbrev pub over : Lent → Machine → Words
over l m = words_of l.0 l.1 l.2 l.3 [] m

-- a store of one row, one version and one bucket, all words 0, with transaction 1 at place 0
abbrev pub sizes : Sizes
sizes = record { rows = 1; versions = 1; buckets = 1 }

abbrev pub lent : Lent
lent = (replicate row_words 0, replicate (version_words * 2) 0, replicate bucket_words 0, replicate lists_words 0)

abbrev pub machine : Phase → Machine
machine ph = record { sizes = sizes; clock = 2; used = 0; txns = set free_places 0 (live 1 ph) }

abbrev pub store : Phase → Words
store ph = over lent (machine ph)

-- its shape is right
pub shape : (ph : Phase) → bucket_in (phase_view ph) ≡ 0 → shape_of (store ph) ≡ true
unfolding computes shape_of
shape phase.Open e = refl
shape (phase.Holding b k) e = rw e
shape (phase.Collected k) e = refl
shape phase.Prepared e = refl
shape phase.Installed e = refl
shape phase.Ended e = refl

-- a lent report with room for a line
abbrev pub blank : List ℕ
blank = replicate 12 0
