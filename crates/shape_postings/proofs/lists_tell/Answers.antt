use Rattle.std.proofs.Common.{sym, ◌∙◌, le-leb, arith}
use Rattle.std.proofs.lemmas.Bool.{lt-leb}
use Rattle.shape_postings.specs.Told.{told_within}
use Rattle.shape_postings.specs.Kept.{Sized}
use Rattle.shape_postings.proofs.Laws.{kept-none, told-unnamed, told_named}
use Rattle.shape_postings.proofs.lists_tell.Goals as goal
use Rattle.shape_postings.proofs.lists_tell.Goals.{then-row_count-via-then-row_count, then-row_count-via-else-row_count+then-rows-row_count}

pub returns-then-row_count : goal.returns-then-row_count
unfolding told_within
returns-then-row_count c = elim c.then-row_count.branch [
  | then-row_count-via-then-row_count w ↦ rw (lt-leb _ _ w.if-row_count.true)
  | then-row_count-via-else-row_count+then-rows-row_count w ↦ rw (le-leb _ _ w.if-row_count.false, lt-leb _ _ w.if-rows-row_count.true)
]

pub rows_named-requires : goal.rows_named-requires
rows_named-requires c =
    let z : Sized c.args.rows.now c.args.row_count = record { few-rows = omega arith; rows-held = omega arith } in
    (z, kept-none c.args.rows.now c.args.row_count z.few-rows)

pub returns-then-rows_named : goal.returns-then-rows_named
returns-then-rows_named c =
    let z : Sized c.args.rows.now c.args.row_count = record { few-rows = omega arith; rows-held = omega arith } in
    told_named _ _ z (sym c.rows_named.ensures.0 ∙ c.if-rows_named.true) c.lists_end.ensures

pub returns-else-rows_named : goal.returns-else-rows_named
returns-else-rows_named c =
    let z : Sized c.args.rows.now c.args.row_count = record { few-rows = omega arith; rows-held = omega arith } in
    rw c.if-rows_named.false (told-unnamed _ _ z (sym c.rows_named.ensures.0 ∙ c.if-rows_named.false))
