use Rattle.std.proofs.Common.{arith}
use Rattle.std.proofs.lemmas.Grind.{common_steps}
use Rattle.wd_distinct_on.proofs.item.are_distinct.Goals as goal

pub loop-items-preserved : goal.loop-items-preserved
loop-items-preserved c = grind (arith, common_steps)

pub returns : goal.returns
returns c = grind (arith, common_steps)
