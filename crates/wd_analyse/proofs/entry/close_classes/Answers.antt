use Rattle.std.proofs.Common.{arith}
use Rattle.std.proofs.lemmas.Grind.{common_steps}
use Rattle.wd_analyse.proofs.Claims.{closings_more}
use Rattle.wd_analyse.proofs.entry.close_classes.Goals as goal

pub loop-class-preserved : goal.loop-class-preserved
loop-class-preserved c = grind (arith, common_steps, closings_more)

pub returns : goal.returns
returns c = grind (arith, common_steps, closings_more)
