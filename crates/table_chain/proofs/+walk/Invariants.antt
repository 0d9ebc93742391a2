-- the walk ends: the pointer falls
use Rattle.table_chain.proofs.+walk.Given as goal

abbrev pub decreases-walk : goal.decreases-walk
decreases-walk l = l.p
