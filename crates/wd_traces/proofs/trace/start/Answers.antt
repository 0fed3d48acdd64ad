use Rattle.std.proofs.Common.{arith}
use Rattle.std.proofs.lemmas.Grind.{common_steps}
use Rattle.wd_traces.proofs.Members.{one_more, not_started}
use Rattle.wd_traces.proofs.Once.{once_first}
use Rattle.wd_traces.proofs.trace.start.Goals as goal

pub loop-column-preserved : goal.loop-column-preserved
loop-column-preserved c = grind (arith, common_steps, one_more, not_started, once_first)

pub returns : goal.returns
returns c = grind (arith, common_steps, one_more, not_started, once_first)
