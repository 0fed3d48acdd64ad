use Rattle.std.proofs.Common.{arith}
use Rattle.std.proofs.lemmas.Grind.{common_steps}
use Rattle.wd_resolve_list.proofs.FirstMet.{with_new_append}
use Rattle.wd_resolve_list.proofs.groups.group_inputs.Goals as goal

pub loop-call-preserved : goal.loop-call-preserved
loop-call-preserved c = grind (arith, common_steps, with_new_append)

pub returns : goal.returns
returns c = grind (arith, common_steps, with_new_append)
