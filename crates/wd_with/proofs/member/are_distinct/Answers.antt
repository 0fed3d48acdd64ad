use Rattle.std.proofs.Common.{arith}
use Rattle.std.proofs.lemmas.Grind.{common_steps}
use Rattle.wd_with.proofs.member.are_distinct.Goals as goal

pub loop-members-preserved : goal.loop-members-preserved
loop-members-preserved c = grind (arith, common_steps)

pub returns : goal.returns
returns c = grind (arith, common_steps)
