use Rattle.std.proofs.Common.{arith}
use Rattle.std.proofs.lemmas.Grind.{common_steps}
use Rattle.wd_analyse.proofs.Missing.{missing_more, missing_none}
use Rattle.wd_analyse.proofs.decided.missing.Goals as goal

pub loop-column-preserved : goal.loop-column-preserved
loop-column-preserved c = grind (arith, common_steps, missing_more, missing_none)

pub returns : goal.returns
returns c = grind (arith, common_steps, missing_more, missing_none)
