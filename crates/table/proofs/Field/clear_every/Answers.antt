use Rattle.table.proofs.Each.{every-none, every-next}
use Rattle.table.proofs.Field.clear_every.Goals as goal

pub loop-i-init : goal.loop-i-init
loop-i-init c = every-none _ _ _ _

pub loop-i-preserved : goal.loop-i-preserved
loop-i-preserved c = every-next _ _ _ _ _ _ c.loop-i.i c.loop-i.invariant c.clear.ensures
