use Rattle.std.proofs.Common.{refl, rules, tests}
use Rattle.shape_chains.proofs.Laws.{every-all}
use Rattle.shape.specs.Tests.{distinct_at}
use Rattle.shape.proofs.distinct_numbers.Goals as goal

pub returns : goal.returns
returns c = every-all (distinct_at c.args.numbers) 8 _ _ _ c.all.ensures.ran refl (λ x b q k. search (rules, tests))
