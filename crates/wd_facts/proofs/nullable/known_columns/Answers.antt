use Rattle.std.proofs.Common.{arith}
use Rattle.std.proofs.lemmas.Grind.{common_steps}
use Rattle.wd_plan.proofs.Ranges.{narrow}
use Rattle.wd_facts.proofs.Added.{known_next}
use Rattle.wd_facts.proofs.nullable.known_columns.Goals as goal

pub loop-column-preserved : goal.loop-column-preserved
loop-column-preserved c = grind (arith, common_steps, narrow, known_next)

pub returns : goal.returns
returns c = grind (arith, common_steps, narrow, known_next)
