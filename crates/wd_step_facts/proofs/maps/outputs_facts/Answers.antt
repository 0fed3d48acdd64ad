use Rattle.std.proofs.Common.{arith}
use Rattle.std.proofs.lemmas.Grind.{common_steps}
use Rattle.wd_step_facts.proofs.Added.{outputs_next}
use Rattle.wd_step_facts.proofs.maps.outputs_facts.Goals as goal

pub add_output-requires : goal.add_output-requires
add_output-requires c = grind (arith, common_steps, outputs_next)

pub overflow_add-number : goal.overflow_add-number
overflow_add-number c = grind (arith, common_steps, outputs_next)

pub loop-output-preserved : goal.loop-output-preserved
loop-output-preserved c = grind (arith, common_steps, outputs_next)

pub returns : goal.returns
returns c = grind (arith, common_steps, outputs_next)
