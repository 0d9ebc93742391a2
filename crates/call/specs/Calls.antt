-- The public steps and open: what is answered, the machine that goes back, and all the lent words.
use Rattle.std.specs.Prelude.{ℕ, suc, ◌*◌, Bool, cond, not, ◌&&◌, List, [], ◌++◌, eqb, drop, get_or, set, replicate}
use Rattle.model.specs.Refusals.{WrongSize, WrongShape}
use Rattle.model.specs.Machine.{can_open}
use Rattle.base_protocol.specs.declared.Refusal.{Refusal}
use Rattle.base_protocol.specs.declared.Step.{Step}
use Rattle.base_protocol.specs.declared.Answer.{Answer}
use Rattle.base_protocol.specs.declared.Answer.TheVariants as tell
use Rattle.base_protocol.specs.declared.Sizes.{Sizes}
use Rattle.base_protocol.specs.View.{sizes_view, refusal_told}
use Rattle.table.specs.Fields.{row_words, version_words, bucket_words, release_every, unclaim_every}
use Rattle.txn.specs.Methods.{idle_of}
use Rattle.txn.specs.declared.Transaction.{Transaction}
use Rattle.txn_places.specs.Places.{free_places}
use Rattle.step.specs.declared.Stepped.{Stepped}
use Rattle.step.specs.Steps.{Moved}
use Rattle.step.specs.Words.{Words, place_for, moved_by, tables_after}
use Rattle.shape.specs.Shape.{tables_lent, shape_of, words_of}
use Rattle.shape.specs.declared.Machine.{Machine}
use Rattle.call.specs.declared.Called.{Called}

-- an answer, and the whole store in words
pub record Left : Type 0 where
  pub answer : Answer
  pub words : Words

-- what a public function hands back, with the lent words as it leaves them
abbrev pub left : Called → List ℕ → List ℕ → List ℕ → List ℕ → List ℕ → Left
left r rows versions buckets lists found = record { answer = r.answer; words = words_of rows versions buckets lists found r.machine }

-- the record that stands at the step's place
abbrev pub asker : Words → Step → Transaction
asker w s = get_or w.txns (place_for w.txns s) (idle_of 0)

-- a record ended: it had a number, and has none
abbrev pub has_ended : ℕ → ℕ → Bool
has_ended before after = not (eqb before 0) && eqb after 0

-- rows and buckets
pub record Swept : Type 0 where
  pub rows : List ℕ
  pub buckets : List ℕ

-- where the record ended, every claim and every bucket that still carries its number is freed
unfoldable pub swept_for : List ℕ → List ℕ → Sizes → ℕ → ℕ → Swept
swept_for rows buckets z before after =
    cond (has_ended before after) (record { rows = unclaim_every rows z.rows before; buckets = release_every buckets z.buckets before })
    (record { rows = rows; buckets = buckets })

-- what a step leaves, swept for the number that its record had
abbrev pub swept_moved : Sizes → ℕ → Moved → Moved
swept_moved z before m = record {
  stepped = m.stepped;
  rows = (swept_for m.rows m.buckets z before m.stepped.txn.number).rows;
  versions = m.versions;
  buckets = (swept_for m.rows m.buckets z before m.stepped.txn.number).buckets;
  lists = m.lists;
  found = m.found;
}

-- a step of the whole, swept; the words after it
abbrev pub called_by : Words → Step → Moved
called_by w s = swept_moved w.sizes (asker w s).number (moved_by w s)

abbrev pub words_called : Words → Step → Words
words_called w s = record {
  tables = tables_after (called_by w s);
  txns = set w.txns (place_for w.txns s) (called_by w s).stepped.txn;
  sizes = w.sizes;
  clock = (called_by w s).stepped.clock;
  used = (called_by w s).stepped.used;
}

-- 16 where the shape is wrong, with all as found; else the step
unfoldable pub call_of : Words → Step → Left
call_of w s = cond (shape_of w) (record { answer = (called_by w s).stepped.answer; words = words_called w s })
    (record { answer = tell.Refused (refusal_told WrongShape); words = w })

-- the record goes back to its place, and clock and last used pointer are taken over
abbrev pub placed_of : Machine → ℕ → Stepped → Called
placed_of m p st = record { answer = st.answer; machine = record { sizes = m.sizes; clock = st.clock; used = st.used; txns = set m.txns p st.txn } }

-- the first n words of a table are 0; those past them keep their contents
unfoldable pub cleared : ℕ → List ℕ → List ℕ
cleared n xs = replicate n 0 ++ drop n xs

-- a fresh machine
abbrev pub fresh_of : Sizes → ℕ → Machine
fresh_of z clock = record { sizes = z; clock = clock; used = 0; txns = free_places }

-- a closed machine, which is of no shape: every step of it gets 16
abbrev pub closed_of : Machine
closed_of = fresh_of (record { rows = 0; versions = 0; buckets = 0 }) 0

-- a refused open leaves the tables as found
abbrev pub refused_open : Refusal → List ℕ → List ℕ → List ℕ → List ℕ → Left
refused_open why rows versions buckets lists = record { answer = tell.Refused why; words = words_of rows versions buckets lists [] closed_of }

-- 1 where a size is outside its range or the clock is 0, 16 where a lent table is shorter than its size; else a fresh store
unfoldable pub open_of : List ℕ → List ℕ → List ℕ → List ℕ → Sizes → ℕ → Left
open_of rows versions buckets lists z clock =
    cond (not (can_open (sizes_view z) clock)) (refused_open (refusal_told WrongSize) rows versions buckets lists)
    (cond (not (tables_lent rows versions buckets lists z)) (refused_open (refusal_told WrongShape) rows versions buckets lists)
    (record {
      answer = tell.Done;
      words =
          words_of (cleared (row_words * z.rows) rows) (cleared (version_words * suc z.versions) versions) (cleared (bucket_words * z.buckets) buckets)
          lists [] (fresh_of z clock);
    }))
