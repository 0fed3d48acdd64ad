use Rattle.std.proofs.Common.{arith}
use Rattle.std.proofs.lemmas.Grind.{common_steps}
use Rattle.wd_traces.proofs.Members.{one_more}
use Rattle.wd_traces.proofs.reached.insert_moved.Goals as goal

pub loop-member-preserved : goal.loop-member-preserved
loop-member-preserved c = grind (arith, common_steps, one_more)

pub returns : goal.returns
returns c = grind (arith, common_steps, one_more)
