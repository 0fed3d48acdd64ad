use Rattle.std.proofs.Common.{arith}
use Rattle.std.proofs.lemmas.Grind.{common_steps}
use Rattle.wd_step_facts.proofs.GroupsAdded.{cut_next}
use Rattle.wd_step_facts.proofs.groups.add_facts_of_group.Goals as goal

pub loop-fact-preserved : goal.loop-fact-preserved
loop-fact-preserved c = grind (arith, common_steps, cut_next)

pub returns-after-loop-fact : goal.returns-after-loop-fact
returns-after-loop-fact c = grind (arith, common_steps, cut_next)

pub returns-else-len-eq1 : goal.returns-else-len-eq1
returns-else-len-eq1 c = grind (arith, common_steps, cut_next)
