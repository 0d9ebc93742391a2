-- `call::call` meets its contract.
-- Assumes nothing.
use Rattle.std.proofs.Common.{◌≡◌, true, false, length, sym, ◌∙◌, arith, rules}
use Rattle.base_limits.specs.Limits.{most_live}
use Rattle.call.specs.Calls.{call_of}
use Rattle.call.proofs.Laws.{shape-found, place-within, call-done}
use Rattle.call.proofs.call.Goals as goal

pub returns-then-not-right_shape : goal.returns-then-not-right_shape
unfolding call_of
returns-then-not-right_shape c =
    let a = c.args in
    let wrong : c.right_shape.result ≡ false = search rules in
    rw (shape-found a.rows.now a.versions.now a.buckets.now a.lists.now a.found.now a.m ∙ (sym c.right_shape.ensures ∙ wrong))

-- the step goes to one of the machine's places
pub offset_bounds-txns-p : goal.offset_bounds-txns-p
offset_bounds-txns-p c =
    let eight : length c.args.m.txns ≡ most_live = search rules in
    let within = place-within c.args.m.txns _ _ _ eight c.others_of-others.ensures c.place_of-p.ensures in
    omega arith

pub bounds-txns-p : goal.bounds-txns-p
bounds-txns-p c =
    let eight : length c.args.m.txns ≡ most_live = search rules in
    place-within c.args.m.txns _ _ _ eight c.others_of-others.ensures c.place_of-p.ensures

pub placed-requires : goal.placed-requires
placed-requires c =
    let eight : length c.args.m.txns ≡ most_live = search rules in
    place-within c.args.m.txns _ _ _ eight c.others_of-others.ensures c.place_of-p.ensures

pub returns : goal.returns
returns c =
    let a = c.args in
    let eight : length a.m.txns ≡ most_live = search rules in
    let within = place-within a.m.txns _ _ _ eight c.others_of-others.ensures c.place_of-p.ensures in
    let right : c.right_shape.result ≡ true = search rules in
    call-done a.rows.now a.versions.now a.buckets.now a.lists.now a.found.now a.m a.s _ _ _ _ eight
    c.others_of-others.ensures c.wanted.ensures c.place_of-p.ensures within _ _ _
    (shape-found a.rows.now a.versions.now a.buckets.now a.lists.now a.found.now a.m ∙ (sym c.right_shape.ensures ∙ right))
    c.step-done.ensures c.sweep.ensures c.placed.ensures
