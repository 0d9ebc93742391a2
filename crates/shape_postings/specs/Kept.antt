-- The place of the last row of each list, kept while the rows are gone through: cited by the contracts of the inner functions, and by no caller's.
use Rattle.std.specs.Prelude.{ℕ, ◌*◌, ◌≤◌, ◌<◌, ◌≡◌, List, length, get_or}
use Rattle.base_limits.specs.Limits.{most_rows}
use Rattle.table.specs.Fields.{row_words}
use Rattle.table_postings.specs.Links.{last_in}

-- no more rows than their limit, and a table that holds them
pub record Sized (rows : List ℕ) (row_count : ℕ) : Type 0 where
  pub few-rows : row_count ≤ most_rows
  pub rows-held : row_words * row_count ≤ length rows

-- what is kept for each list is the place of its last row below r
pub record LastKept (rows : List ℕ) (row_count r : ℕ) (last : List ℕ) : Type 0 where
  pub room : row_count ≤ length last
  pub kept : (i : ℕ) → i < row_count → get_or last i 0 ≡ last_in rows row_count i r
