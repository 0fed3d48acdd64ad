use Rattle.std.proofs.Common.{arith}
use Rattle.std.proofs.lemmas.Grind.{common_steps}
use Rattle.std.proofs.lemmas.List.{set_past}
use Rattle.wd_close.proofs.counters.fall.Goals as goal

pub loop-fact-preserved : goal.loop-fact-preserved
loop-fact-preserved c = grind (arith, common_steps, set_past)

pub returns : goal.returns
returns c = grind (arith, common_steps, set_past)
