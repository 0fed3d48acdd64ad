use Rattle.std.proofs.Common.{arith}
use Rattle.std.proofs.lemmas.Grind.{common_steps}
use Rattle.wd_analyse.proofs.Outputs.{outputs_next, outputs_stop}
use Rattle.wd_analyse.proofs.sources.outputs_of.Goals as goal

pub loop-column-preserved : goal.loop-column-preserved
loop-column-preserved c = grind (arith, common_steps, outputs_next, outputs_stop)

pub returns : goal.returns
returns c = grind (arith, common_steps, outputs_next, outputs_stop)
