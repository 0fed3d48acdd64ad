use Rattle.std.proofs.Common.{arith}
use Rattle.std.proofs.lemmas.Grind.{common_steps}
use Rattle.wd_using.proofs.merge.are_joined_by.Goals as goal

pub loop-tables-preserved : goal.loop-tables-preserved
loop-tables-preserved c = grind (arith, common_steps)

pub returns : goal.returns
returns c = grind (arith, common_steps)
