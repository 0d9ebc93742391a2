-- The lists, as a store that a call brings must have them.
use Rattle.std.specs.Prelude.{ℕ, ◌*◌, Bool, ◌&&◌, List, leb, length}
use Rattle.base_limits.specs.Limits.{most_rows}
use Rattle.table.specs.Fields.{row_words}
use Rattle.table_postings.specs.Links.{lists_tell}

-- no more rows than their limit, a table that holds them, and lists that tell the postings
unfoldable pub told_within : List ℕ → ℕ → Bool
told_within rows row_count = leb row_count most_rows && leb (row_words * row_count) (length rows) && lists_tell rows row_count
