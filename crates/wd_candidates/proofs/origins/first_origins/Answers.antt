use Rattle.std.proofs.Common.{arith}
use Rattle.std.proofs.lemmas.Grind.{common_steps}
use Rattle.wd_candidates.proofs.Copies.{first_origins_more}
use Rattle.wd_candidates.proofs.origins.first_origins.Goals as goal

pub loop-column-preserved : goal.loop-column-preserved
loop-column-preserved c = grind (arith, common_steps, first_origins_more)

pub returns : goal.returns
returns c = grind (arith, common_steps, first_origins_more)
