use Rattle.std.proofs.Common.{arith}
use Rattle.std.proofs.lemmas.Grind.{common_steps}
use Rattle.wd_varied.proofs.place.is_equated.Goals as goal

pub loop-equation-preserved : goal.loop-equation-preserved
loop-equation-preserved c = grind (arith, common_steps)

pub returns : goal.returns
returns c = grind (arith, common_steps)
