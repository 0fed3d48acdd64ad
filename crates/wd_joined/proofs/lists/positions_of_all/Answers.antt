use Rattle.std.proofs.Common.{arith}
use Rattle.std.proofs.lemmas.Grind.{common_steps}
use Rattle.wd_joined.proofs.lists.positions_of_all.Goals as goal

pub loop-shared-preserved : goal.loop-shared-preserved
loop-shared-preserved c = grind (arith, common_steps)

pub returns : goal.returns
returns c = grind (arith, common_steps)
