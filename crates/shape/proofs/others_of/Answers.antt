use Rattle.std.proofs.Common.{◌≡◌, length, rules}
use Rattle.txn_places.specs.Places.{active_number, prepared_count}
use Rattle.txn.specs.declared.Transaction.{Transaction}
use Rattle.shape.proofs.Laws.{mapped}
use Rattle.shape.proofs.others_of.Goals as goal

pub returns : goal.returns
returns c =
    let ts = c.args.txns in
    let eight : length ts ≡ 8 = search rules in
    rw (
      mapped (λ (t : Transaction). t.number) ts _ eight c.map.ensures.items (λ p q t y k. search rules),
      mapped (λ (t : Transaction). active_number t.number t.phase) ts _ eight c.map-2.ensures.items (λ p q t y k. search rules),
      mapped (λ (t : Transaction). prepared_count t.number t.phase t.writes_n) ts _ eight c.map-3.ensures.items (λ p q t y k. search rules),
    )
