use Rattle.std.proofs.Common.{arith}
use Rattle.std.proofs.lemmas.Grind.{common_steps}
use Rattle.wd_step_facts.proofs.moved.moved_facts.Goals as goal

pub moved_fact-requires : goal.moved_fact-requires
moved_fact-requires c = grind (arith, common_steps)

pub loop-fact-preserved : goal.loop-fact-preserved
loop-fact-preserved c = grind (arith, common_steps)

pub returns : goal.returns
returns c = grind (arith, common_steps)
