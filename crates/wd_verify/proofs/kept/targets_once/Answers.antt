use Rattle.std.proofs.Common.{arith}
use Rattle.std.proofs.lemmas.Grind.{common_steps}
use Rattle.wd_traces.proofs.Once.{once_first}
use Rattle.wd_verify.proofs.kept.targets_once.Goals as goal

pub loop-target-preserved : goal.loop-target-preserved
loop-target-preserved c = grind (arith, common_steps, once_first)

pub returns : goal.returns
returns c = grind (arith, common_steps, once_first)
