use Rattle.std.proofs.Common.{arith}
use Rattle.std.proofs.lemmas.Grind.{common_steps}
use Rattle.wd_analyse.proofs.Said.{reasons_next, marks_next}
use Rattle.wd_analyse.proofs.entry.say_calls.Goals as goal

pub loop-one-preserved : goal.loop-one-preserved
loop-one-preserved c = grind (arith, common_steps, reasons_next, marks_next)

pub returns : goal.returns
returns c = grind (arith, common_steps, reasons_next, marks_next)
