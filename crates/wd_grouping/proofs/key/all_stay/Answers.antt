use Rattle.std.proofs.Common.{arith}
use Rattle.std.proofs.lemmas.Grind.{common_steps}
use Rattle.wd_grouping.proofs.key.all_stay.Goals as goal

pub loop-parts-preserved : goal.loop-parts-preserved
loop-parts-preserved c = grind (arith, common_steps)

pub returns : goal.returns
returns c = grind (arith, common_steps)
