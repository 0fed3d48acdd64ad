use Rattle.std.proofs.Common.{arith}
use Rattle.std.proofs.lemmas.Grind.{common_steps}
use Rattle.wd_verify.proofs.Columns.{columns_next, columns_end}
use Rattle.wd_verify.proofs.rules.reaches_all.Goals as goal

pub loop-column-preserved : goal.loop-column-preserved
loop-column-preserved c = grind (arith, common_steps, columns_next, columns_end)

pub returns : goal.returns
returns c = grind (arith, common_steps, columns_next, columns_end)
