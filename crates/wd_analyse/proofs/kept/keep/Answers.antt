use Rattle.std.proofs.Common.{arith}
use Rattle.std.proofs.lemmas.Grind.{common_steps}
use Rattle.wd_analyse.proofs.kept.keep.Goals as goal

pub loop-claim-preserved : goal.loop-claim-preserved
loop-claim-preserved c = grind (arith, common_steps)

pub returns : goal.returns
returns c = grind (arith, common_steps)
