use Rattle.std.proofs.Common.{arith}
use Rattle.std.proofs.lemmas.Grind.{common_steps}
use Rattle.wd_distinct_on.proofs.key.all_among.Goals as goal

pub loop-orders-preserved : goal.loop-orders-preserved
loop-orders-preserved c = grind (arith, common_steps)

pub returns : goal.returns
returns c = grind (arith, common_steps)
