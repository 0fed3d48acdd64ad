use Rattle.std.proofs.Common.{arith}
use Rattle.std.proofs.lemmas.Grind.{common_steps}
use Rattle.wd_step_facts.proofs.ToldApart.{differ_past}
use Rattle.wd_step_facts.proofs.apart.are_unlike.Goals as goal

pub returns-then-marks-place : goal.returns-then-marks-place
returns-then-marks-place c = grind (arith, common_steps, differ_past)

pub loop-place-preserved : goal.loop-place-preserved
loop-place-preserved c = grind (arith, common_steps, differ_past)
