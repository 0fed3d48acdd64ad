use Rattle.std.proofs.Common.{arith}
use Rattle.std.proofs.lemmas.Grind.{common_steps}
use Rattle.wd_plan.proofs.Copied.{all_closed_push}
use Rattle.wd_plan.proofs.copy.copy_expression.Goals as goal

pub loop-step-preserved : goal.loop-step-preserved
loop-step-preserved c = grind (arith, common_steps, all_closed_push)
