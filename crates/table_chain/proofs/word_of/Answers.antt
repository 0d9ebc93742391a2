-- `table_chain::word_of` meets its contract.
use Rattle.std.proofs.Common.{refl}
use Rattle.table.specs.Words.{field}
use Rattle.table_chain.proofs.word_of.Goals as goal

pub returns : goal.returns
unfolding field
returns c = refl
