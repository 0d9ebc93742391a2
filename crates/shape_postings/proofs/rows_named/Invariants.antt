-- the rows before `row` are named, and the places of the last of them are kept
use Rattle.std.proofs.Common.{◌≡◌, true}
use Rattle.base_lists.specs.Lists.{every}
use Rattle.table_postings.specs.Links.{named_before}
use Rattle.shape_postings.specs.Kept.{LastKept}
use Rattle.shape_postings.proofs.rows_named.Given as goal

abbrev pub invariant-loop-row : goal.invariant-loop-row
invariant-loop-row l = LastKept l.rows l.row_count l.row l.last × (every l.row (named_before l.rows l.row_count) ≡ true)
