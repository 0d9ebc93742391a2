-- the recursion ends: the number falls
use Rattle.report.proofs.+width.Given as goal

abbrev pub decreases-width : goal.decreases-width
decreases-width l = l.n
