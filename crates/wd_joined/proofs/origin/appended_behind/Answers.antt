use Rattle.std.proofs.Common.{arith}
use Rattle.std.proofs.lemmas.Grind.{common_steps}
use Rattle.wd_joined.proofs.origin.appended_behind.Goals as goal

pub loop-origin-preserved : goal.loop-origin-preserved
loop-origin-preserved c = grind (arith, common_steps)

pub returns : goal.returns
returns c = grind (arith, common_steps)
