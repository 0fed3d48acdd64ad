use Rattle.std.proofs.Common.{arith}
use Rattle.std.proofs.lemmas.Grind.{common_steps}
use Rattle.wd_join.proofs.paired.paired_column.Goals as goal

pub loop-pair-preserved : goal.loop-pair-preserved
loop-pair-preserved c = grind (arith, common_steps)

pub returns : goal.returns
returns c = grind (arith, common_steps)
