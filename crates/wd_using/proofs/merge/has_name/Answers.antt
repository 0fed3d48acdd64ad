use Rattle.std.proofs.Common.{arith}
use Rattle.std.proofs.lemmas.Grind.{common_steps}
use Rattle.wd_using.proofs.merge.has_name.Goals as goal

pub loop-names-preserved : goal.loop-names-preserved
loop-names-preserved c = grind (arith, common_steps)

pub returns : goal.returns
returns c = grind (arith, common_steps)
