use Rattle.std.proofs.Common.{arith}
use Rattle.std.proofs.lemmas.Grind.{common_steps}
use Rattle.wd_using.proofs.merge.has_column.Goals as goal

pub loop-columns-preserved : goal.loop-columns-preserved
loop-columns-preserved c = grind (arith, common_steps)

pub returns : goal.returns
returns c = grind (arith, common_steps)
