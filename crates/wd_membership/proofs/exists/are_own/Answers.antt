use Rattle.std.proofs.Common.{arith}
use Rattle.std.proofs.lemmas.Grind.{common_steps}
use Rattle.wd_membership.proofs.exists.are_own.Goals as goal

pub loop-conjuncts-preserved : goal.loop-conjuncts-preserved
loop-conjuncts-preserved c = grind (arith, common_steps)

pub returns : goal.returns
returns c = grind (arith, common_steps)
