use Rattle.std.proofs.Common.{rules}
use Rattle.model.specs.Shape as model
use Rattle.shape_open.proofs.good_sizes.Goals as goal
use Rattle.shape_open.proofs.good_sizes.Goals.{then-within, else-within}

pub returns-then-within-2 : goal.returns-then-within-2
unfolding model.good_sizes
returns-then-within-2 c = elim c.if-within.branch [ then-within w ↦ search rules | else-within w ↦ search rules ]

pub returns-else-within-2 : goal.returns-else-within-2
unfolding model.good_sizes
returns-else-within-2 c = elim c.if-within.branch [ then-within w ↦ search rules | else-within w ↦ search rules ]
