-- As many are counted as are not 0.
use Rattle.std.proofs.Common.{◌≡◌, ◌∙◌, sym, rules, not, eqb}
use native.Mathlib.Nat.{zero-add}
use Rattle.std.specs.Prelude.{count_by}
use Rattle.txn_places.proofs.Laws.{live_counted}
use Rattle.txn_places.proofs.live_count.Goals as goal

pub returns : goal.returns
returns c =
    let h : c.count.result ≡ count_by (λ x. not (eqb x 0)) c.args.numbers = search rules in
    h ∙ sym (live_counted c.args.numbers 0 ∙ zero-add _)
