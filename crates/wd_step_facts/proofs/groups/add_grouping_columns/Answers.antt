use Rattle.std.proofs.Common.{arith}
use Rattle.std.proofs.lemmas.Grind.{common_steps}
use Rattle.wd_step_facts.proofs.GroupsAdded.{grouping_next}
use Rattle.wd_step_facts.proofs.groups.add_grouping_columns.Goals as goal

pub overflow_add-column : goal.overflow_add-column
overflow_add-column c = grind (arith, common_steps, grouping_next)

pub loop-call-preserved : goal.loop-call-preserved
loop-call-preserved c = grind (arith, common_steps, grouping_next)

pub returns : goal.returns
returns c = grind (arith, common_steps, grouping_next)
