use Rattle.std.proofs.Common.{arith}
use Rattle.std.proofs.lemmas.Grind.{common_steps}
use Rattle.wd_resolve_select.proofs.steps.columns_over.Goals as goal

pub loop-expression-preserved : goal.loop-expression-preserved
loop-expression-preserved c = grind (arith, common_steps)

pub returns : goal.returns
returns c = grind (arith, common_steps)
