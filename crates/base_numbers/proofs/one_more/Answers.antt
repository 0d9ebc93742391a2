-- `base_numbers::one_more` meets its contract.
use Rattle.std.proofs.Common.{arith}
use Rattle.std.proofs.lemmas.Bool.Decides.{nat_tests}
use Rattle.base_numbers.specs.Numbers.{one_more}
use Rattle.base_numbers.proofs.one_more.Goals as goal

pub returns : goal.returns
unfolding one_more
returns c = grind (arith, nat_tests)
