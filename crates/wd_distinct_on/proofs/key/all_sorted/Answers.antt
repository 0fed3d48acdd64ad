use Rattle.std.proofs.Common.{arith}
use Rattle.std.proofs.lemmas.Grind.{common_steps}
use Rattle.wd_distinct_on.proofs.key.all_sorted.Goals as goal

pub loop-keys-preserved : goal.loop-keys-preserved
loop-keys-preserved c = grind (arith, common_steps)

pub returns : goal.returns
returns c = grind (arith, common_steps)
