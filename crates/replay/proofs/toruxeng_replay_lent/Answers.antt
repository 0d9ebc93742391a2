-- `replay::toruxeng_replay_lent` meets its contract.
-- Assumes nothing.
use Rattle.std.proofs.Common.{zero-add}
use Rattle.replay.proofs.Lending.{all_left}
use Rattle.replay.proofs.toruxeng_replay_lent.Goals as goal

pub returns-in-Ok : goal.returns-in-Ok
returns-in-Ok c = rw zero-add at (all_left _ _ _ _ _ (record { status = 0; wrote = c.in-Ok.wrote }) c.in-Ok.ensures)

pub returns-in-Err : goal.returns-in-Err
returns-in-Err c = all_left _ _ _ _ _ c.in-Err.stopped c.in-Err.ensures
