use Rattle.std.proofs.Common.{arith}
use Rattle.std.proofs.lemmas.Grind.{common_steps}
use Rattle.wd_close.proofs.Ranges.{columns_more, columns_none}
use Rattle.wd_close.proofs.reached.add_columns.Goals as goal

pub loop-column-preserved : goal.loop-column-preserved
loop-column-preserved c = grind (arith, common_steps, columns_more, columns_none)

pub returns : goal.returns
returns c = grind (arith, common_steps, columns_more, columns_none)
