-- Of sizes within their limits, over tables that are long enough, what is tested of the lists is that they tell the postings.
-- Assumes nothing.
use borrow.Author.Tests.{le-leb}
use Prim.Native.Nat.{ℕ, suc, ◌*◌}
use mathlib.Core.Path.{◌≡◌, refl, sym}
use mathlib.Core.Bool.{Bool, true, false, ◌&&◌}
use mathlib.Core.List.{List}
use lib.Dec.{leb}
use lib.ListN.{length}
use Rattle.base_limits.specs.Limits.{most_rows}
use Rattle.base_lists.proofs.ListLaws.{and_l, and-false}
use Rattle.model.specs.Shape.{good_sizes}
use Rattle.model.proofs.Ranges.{good-sized}
use Rattle.base_protocol.specs.declared.Sizes.{Sizes}
use Rattle.base_protocol.specs.View.{sizes_view}
use Rattle.table.specs.Fields.{row_words, version_words, bucket_words}
use Rattle.table.specs.Lists.{lists_words}
use Rattle.table_postings.specs.Links.{lists_tell}
use Rattle.shape_postings.specs.Told.{told_within}
use Rattle.shape.specs.Shape.{tables_lent}

pub told_is : (rows versions buckets lists : List ℕ) (z : Sizes) → good_sizes (sizes_view z) ≡ true → tables_lent rows versions buckets lists z ≡ true
    → told_within rows z.rows ≡ lists_tell rows z.rows
unfolding told_within
told_is rows versions buckets lists z good lent =
    let n = good-sized (sizes_view z) good in
    let long = leb (row_words * z.rows) (length rows) in
    let deep = leb (version_words * suc z.versions) (length versions) in
    let wide = leb (bucket_words * z.buckets) (length buckets) in
    let three = and_l (long && deep && wide) (leb lists_words (length lists)) lent in
    rw (le-leb z.rows most_rows n.rows-most, and_l long deep (and_l (long && deep) wide three))

-- so the tests may be made in the code's order
pub told-joined : (rows versions buckets lists : List ℕ) (z : Sizes) (places : Bool)
    → tables_lent rows versions buckets lists z && places && good_sizes (sizes_view z) && told_within rows z.rows
    ≡ tables_lent rows versions buckets lists z && places && lists_tell rows z.rows && good_sizes (sizes_view z)
told-joined rows versions buckets lists z places =
    joined (tables_lent rows versions buckets lists z) places (good_sizes (sizes_view z)) (told_within rows z.rows) (lists_tell rows z.rows)
    (λ g l. told_is rows versions buckets lists z g l)
  where
    joined : (lent places good told tells : Bool) → (good ≡ true → lent ≡ true → told ≡ tells) → lent && places && good && told
        ≡ lent && places && tells && good
    joined false places good told tells h = refl
    joined true false good told tells h = refl
    joined true true false told tells h = sym (and-false tells)
    joined true true true told true h = h refl refl
    joined true true true told false h = h refl refl
