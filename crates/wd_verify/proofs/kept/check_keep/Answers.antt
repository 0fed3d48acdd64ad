use Rattle.std.proofs.Common.{arith}
use Rattle.std.proofs.lemmas.Grind.{common_steps}
use Rattle.wd_verify.proofs.kept.check_keep.Goals as goal

pub loop-kept-preserved : goal.loop-kept-preserved
loop-kept-preserved c = grind (arith, common_steps)

pub returns : goal.returns
returns c = grind (arith, common_steps)
