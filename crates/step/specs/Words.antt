-- A whole store in words, how the model sees it, and a step of it.
use Rattle.std.specs.Prelude.{ℕ, suc, ◌*◌, ◌≤◌, ◌<◌, ◌≡◌, true, List, map, length, get_or, set}
use Rattle.base_limits.specs.Limits.{most_live, most_active, most_index_reads, most_writes, most_records, most_rows}
use Rattle.model.specs.Store as model
use Rattle.base_protocol.specs.declared.Step.{Step}
use Rattle.base_protocol.specs.declared.Extent.{Extent}
use Rattle.base_protocol.specs.declared.Sizes.{Sizes}
use Rattle.base_protocol.specs.View.{sizes_view}
use Rattle.table.specs.Fields.{row_words, version_words, bucket_words}
use Rattle.table.specs.Lists.{lists_words}
use Rattle.table_postings.specs.Links.{lists_tell}
use Rattle.txn.specs.View.{rows_part, versions_part, buckets_part, chains_view, index_view, held_view, txn_view}
use Rattle.txn.specs.Methods.{idle_of}
use Rattle.txn.specs.declared.Transaction.{Transaction}
use Rattle.txn_places.specs.declared.Others.{Others}
use Rattle.txn_places.specs.Places.{wanted_of, place_in, active_number, prepared_count}
use Rattle.step.specs.declared.Place.{Place}
use Rattle.step.specs.Steps.{Tables, Moved, step_of}

-- the tables, the eight records, and the numbers beside them
pub record Words : Type 0 where
  pub tables : Tables
  pub txns : List Transaction
  pub sizes : Sizes
  pub clock : ℕ
  pub used : ℕ

-- the record at a place
abbrev pub txn_at : Words → ℕ → Transaction
txn_at w i = get_or w.txns i (idle_of i)

-- the store that the words stand for
abbrev pub view : Words → model.Store
view w = record {
  sizes = sizes_view w.sizes;
  clock = w.clock;
  chains = chains_view (rows_part (sizes_view w.sizes) w.tables.rows) (versions_part (sizes_view w.sizes) w.tables.versions) w.used;
  index = index_view (rows_part (sizes_view w.sizes) w.tables.rows) (buckets_part (sizes_view w.sizes) w.tables.buckets);
  held = held_view (rows_part (sizes_view w.sizes) w.tables.rows) (buckets_part (sizes_view w.sizes) w.tables.buckets);
  txns = λ i. txn_view w.tables.lists (txn_at w i);
}

-- what a step needs to know of the other places
abbrev pub others_in : List Transaction → Others
others_in ts = record {
  numbers = map (λ (t : Transaction). t.number) ts;
  active = map (λ (t : Transaction). active_number t.number t.phase) ts;
  prepared = map (λ (t : Transaction). prepared_count t.number t.phase t.writes_n) ts;
}

-- the place that a step goes to
unfoldable pub place_for : List Transaction → Step → ℕ
place_for ts s = place_in (others_in ts).numbers (wanted_of s)

-- how far the store reaches
abbrev pub extent_in : Words → Extent
extent_in w = record { sizes = w.sizes; clock = w.clock; used = w.used }

-- what a step of this record finds beside the tables
abbrev pub beside : Words → Transaction → Place
beside w t = record { extent = extent_in w; others = others_in w.txns; txn = t }

-- a step of the whole
unfoldable pub moved_by : Words → Step → Moved
moved_by w s = step_of w.tables (beside w (get_or w.txns (place_for w.txns s) (idle_of 0))) s

abbrev pub tables_after : Moved → Tables
tables_after m = record { rows = m.rows; versions = m.versions; buckets = m.buckets; lists = m.lists; found = m.found }

abbrev pub words_after : Words → Step → Words
words_after w s = record {
  tables = tables_after (moved_by w s);
  txns = set w.txns (place_for w.txns s) (moved_by w s).stepped.txn;
  sizes = w.sizes;
  clock = (moved_by w s).stepped.clock;
  used = (moved_by w s).stepped.used;
}

-- the record at place i stands in slot i, and its counts are within their lists
pub record SizedTxn (i : ℕ) (t : Transaction) : Type 0 where
  pub slot : t.slot ≡ i
  pub active : t.snapshot.active_n ≤ most_active
  pub seven : length t.snapshot.active ≡ most_active
  pub reads : t.reads_n ≤ most_index_reads
  pub writes : t.writes_n ≤ most_writes
  pub records : t.records_n ≤ most_records
  pub candidates : t.candidates_n ≤ most_rows

-- tables are at least their sizes, and each record is in order
pub record Sized (w : Words) : Type 0 where
  pub eight : length w.txns ≡ most_live
  pub rows : row_words * w.sizes.rows ≤ length w.tables.rows
  pub versions : version_words * suc w.sizes.versions ≤ length w.tables.versions
  pub buckets : bucket_words * w.sizes.buckets ≤ length w.tables.buckets
  pub lists : lists_words ≤ length w.tables.lists
  pub txns : (i : ℕ) → i < most_live → SizedTxn i (txn_at w i)
  -- the lists of postings tell them
  pub told : lists_tell w.tables.rows w.sizes.rows ≡ true
