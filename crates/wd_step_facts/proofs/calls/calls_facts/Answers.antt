use Rattle.std.proofs.Common.{arith}
use Rattle.std.proofs.lemmas.Grind.{common_steps}
use Rattle.wd_step_facts.proofs.Added.{calls_next}
use Rattle.wd_step_facts.proofs.calls.calls_facts.Goals as goal

pub add_call_of-requires : goal.add_call_of-requires
add_call_of-requires c = grind (arith, common_steps, calls_next)

pub overflow_add-column : goal.overflow_add-column
overflow_add-column c = grind (arith, common_steps, calls_next)

pub loop-call-preserved : goal.loop-call-preserved
loop-call-preserved c = grind (arith, common_steps, calls_next)

pub returns : goal.returns
returns c = grind (arith, common_steps, calls_next)
