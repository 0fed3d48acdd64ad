use Rattle.std.proofs.Common.{arith}
use Rattle.std.proofs.lemmas.Grind.{common_steps}
use Rattle.wd_traces.proofs.Members.{one_more}
use Rattle.wd_verify.proofs.named.mark_kept.Goals as goal

pub loop-kept-preserved : goal.loop-kept-preserved
loop-kept-preserved c = grind (arith, common_steps, one_more)

pub returns : goal.returns
returns c = grind (arith, common_steps, one_more)
