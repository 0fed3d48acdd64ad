use Rattle.std.proofs.Common.{arith, refl}
use Rattle.std.proofs.lemmas.Grind.{common_steps}
use Rattle.wd_traces.proofs.Used.{none_at}
use Rattle.wd_traces.proofs.trace.use_each.Goals as goal

pub loop-number-init : goal.loop-number-init
loop-number-init c = record { from = refl; used = λ i n e. absurd (none_at 64 i n e); uses = refl }

pub loop-number-preserved : goal.loop-number-preserved
loop-number-preserved c = grind (arith, common_steps)

pub returns : goal.returns
returns c = grind (arith, common_steps)
