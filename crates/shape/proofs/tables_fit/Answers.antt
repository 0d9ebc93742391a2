use Rattle.std.proofs.Common.{◌≡◌, ◌&&◌, ◌∙◌, rules}
use Rattle.model.specs.Shape.{good_sizes}
use Rattle.base_protocol.specs.View.{sizes_view}
use Rattle.shape_postings.specs.Told.{told_within}
use Rattle.shape.specs.Shape.{tables_lent, all_in_place, tables_fit}
use Rattle.shape.proofs.Telling.{told-joined}
use Rattle.shape.proofs.tables_fit.Goals as goal

pub returns-then-good_sizes : goal.returns-then-good_sizes
unfolding tables_fit
returns-then-good_sizes c =
    let a = c.args in
    let front = tables_lent a.rows.now a.versions.now a.buckets.now a.lists.now a.m.sizes && all_in_place a.m.txns in
    let told : c.lists_tell.result ≡ front && good_sizes (sizes_view a.m.sizes) && told_within a.rows.now a.m.sizes.rows = search rules in
    told ∙ told-joined a.rows.now a.versions.now a.buckets.now a.lists.now a.m.sizes (all_in_place a.m.txns)

pub returns-else-good_sizes : goal.returns-else-good_sizes
unfolding tables_fit
returns-else-good_sizes c =
    let a = c.args in
    let front = tables_lent a.rows.now a.versions.now a.buckets.now a.lists.now a.m.sizes && all_in_place a.m.txns in
    let told : c.if-all_in_place.value ≡ front && good_sizes (sizes_view a.m.sizes) && told_within a.rows.now a.m.sizes.rows = search rules in
    told ∙ told-joined a.rows.now a.versions.now a.buckets.now a.lists.now a.m.sizes (all_in_place a.m.txns)
