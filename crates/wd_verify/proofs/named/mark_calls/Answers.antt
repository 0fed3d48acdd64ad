use Rattle.std.proofs.Common.{arith}
use Rattle.std.proofs.lemmas.Grind.{common_steps}
use Rattle.wd_traces.proofs.Members.{one_more}
use Rattle.wd_verify.proofs.named.mark_calls.Goals as goal

pub loop-rule-preserved : goal.loop-rule-preserved
loop-rule-preserved c = grind (arith, common_steps, one_more)

pub returns : goal.returns
returns c = grind (arith, common_steps, one_more)
