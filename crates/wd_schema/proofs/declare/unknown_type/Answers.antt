use Rattle.std.proofs.Common.{arith}
use Rattle.std.proofs.lemmas.Grind.{common_steps}
use Rattle.wd_schema.proofs.declare.unknown_type.Goals as goal

pub loop-e-preserved : goal.loop-e-preserved
loop-e-preserved c = grind (arith, common_steps)

pub returns : goal.returns
returns c = grind (arith, common_steps)
