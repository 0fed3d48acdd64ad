use Rattle.std.proofs.Common.{arith}
use Rattle.std.proofs.lemmas.Grind.{common_steps}
use Rattle.wd_analyse.proofs.sources.add_left_sides_by.Goals as goal

pub loop-fact-preserved : goal.loop-fact-preserved
loop-fact-preserved c = grind (arith, common_steps)

pub returns : goal.returns
returns c = grind (arith, common_steps)
