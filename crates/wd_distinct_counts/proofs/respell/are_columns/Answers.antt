use Rattle.std.proofs.Common.{arith}
use Rattle.std.proofs.lemmas.Grind.{common_steps}
use Rattle.wd_distinct_counts.proofs.respell.are_columns.Goals as goal

pub loop-keys-preserved : goal.loop-keys-preserved
loop-keys-preserved c = grind (arith, common_steps)

pub returns : goal.returns
returns c = grind (arith, common_steps)
