-- The shape of a whole store in words: what only the words can get wrong, and the model's test of what they stand for.
use Rattle.std.specs.Prelude.{ℕ, suc, ◌*◌, Bool, ◌&&◌, List, eqb, leb, length, get_or}
use Rattle.base_limits.specs.Limits.{most_live, most_active}
use Rattle.base_lists.specs.Lists.{every}
use Rattle.model.specs.Shape.{right_shape}
use Rattle.base_protocol.specs.declared.Sizes.{Sizes}
use Rattle.table.specs.Fields.{row_words, version_words, bucket_words}
use Rattle.table.specs.Lists.{lists_words}
use Rattle.table_postings.specs.Links.{lists_tell}
use Rattle.txn.specs.Methods.{idle_of}
use Rattle.txn.specs.declared.Transaction.{Transaction}
use Rattle.shape_txn.specs.TxnShape.{counts_fit}
use Rattle.step.specs.Words.{Words, view}
use Rattle.shape.specs.declared.Machine.{Machine}

-- each lent table has the words that its size names
abbrev pub tables_lent : List ℕ → List ℕ → List ℕ → List ℕ → Sizes → Bool
tables_lent rows versions buckets lists z =
    leb (row_words * z.rows) (length rows)
    && leb (version_words * suc z.versions) (length versions)
    && leb (bucket_words * z.buckets) (length buckets)
    && leb lists_words (length lists)

-- a record, of a free place too, stands in the slot of its place, and its active numbers and entries are no more than its snapshot and its lists hold
abbrev pub in_place : ℕ → Transaction → Bool
in_place i t = eqb t.slot i && leb t.snapshot.active_n most_active && counts_fit t

abbrev pub all_in_place : List Transaction → Bool
all_in_place ts = every most_live (λ i. in_place i (get_or ts i (idle_of i)))

-- the lists of postings tell them
abbrev pub lists_in : Words → Bool
lists_in w = lists_tell w.tables.rows w.sizes.rows

-- a table shorter than its size, a record in a wrong slot, one with a count above its limit and lists of postings that do not tell them get 16 too
unfoldable pub tables_fit : Words → Bool
tables_fit w = tables_lent w.tables.rows w.tables.versions w.tables.buckets w.tables.lists w.sizes && all_in_place w.txns && lists_in w

-- the shape that public steps test first
unfoldable pub shape_of : Words → Bool
shape_of w = tables_fit w && right_shape (view w)

-- the words of a machine and its lent tables; `found` is the list lent for the rows of a read
abbrev pub words_of : List ℕ → List ℕ → List ℕ → List ℕ → List ℕ → Machine → Words
words_of rows versions buckets lists found m = record {
  tables = record { rows = rows; versions = versions; buckets = buckets; lists = lists; found = found };
  txns = m.txns;
  sizes = m.sizes;
  clock = m.clock;
  used = m.used;
}
