use Rattle.std.proofs.Common.{arith}
use Rattle.std.proofs.lemmas.Grind.{common_steps}
use Rattle.wd_analyse.proofs.closed.add_traces.Goals as goal

pub loop-closed-preserved : goal.loop-closed-preserved
loop-closed-preserved c = grind (arith, common_steps)

pub returns : goal.returns
returns c = grind (arith, common_steps)
