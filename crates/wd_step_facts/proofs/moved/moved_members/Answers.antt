use Rattle.std.proofs.Common.{arith}
use Rattle.std.proofs.lemmas.Grind.{common_steps}
use Rattle.wd_step_facts.proofs.moved.moved_members.Goals as goal

pub moved_member-requires : goal.moved_member-requires
moved_member-requires c = grind (arith, common_steps)

pub loop-member-preserved : goal.loop-member-preserved
loop-member-preserved c = grind (arith, common_steps)

pub returns : goal.returns
returns c = grind (arith, common_steps)
