-- `replay::toruxeng_replay` meets its contract.
-- Assumes nothing.
use Rattle.std.proofs.Common.{ap, ◌∙◌}
use Rattle.model.specs.Replay.{Replayed, packed, reported}
use Rattle.replay.specs.Lent.{LeftLent, lent_of}
use Rattle.replay.proofs.Greatest.{greatest-any}
use Rattle.replay.proofs.toruxeng_replay.Goals as goal

pub returns : goal.returns
unfolding lent_of
returns c =
    let a = c.args in
    let any = greatest-any a.log.now a.report.now in
    let e = c.toruxeng_replay_lent.ensures in
    (ap (λ (l : LeftLent). l.answer) e ∙ ap packed any, ap (λ (l : LeftLent). l.report) e ∙ ap (λ (r : Replayed). reported r a.report.now) any)
