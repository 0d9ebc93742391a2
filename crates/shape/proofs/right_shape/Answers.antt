use Rattle.std.proofs.Common.{◌≡◌, [], length, rules}
use Rattle.shape.specs.Shape.{words_of}
use Rattle.shape.proofs.Joined.{shape_grouped}
use Rattle.shape.proofs.right_shape.Goals as goal

pub returns-then-txns_fit : goal.returns-then-txns_fit
returns-then-txns_fit c =
    let a = c.args in
    let eight : length a.m.txns ≡ 8 = search rules in
    rw (shape_grouped (words_of a.rows.now a.versions.now a.buckets.now a.lists.now [] a.m) eight) (search rules)

pub returns-else-txns_fit : goal.returns-else-txns_fit
returns-else-txns_fit c =
    let a = c.args in
    let eight : length a.m.txns ≡ 8 = search rules in
    rw (shape_grouped (words_of a.rows.now a.versions.now a.buckets.now a.lists.now [] a.m) eight) (search rules)
