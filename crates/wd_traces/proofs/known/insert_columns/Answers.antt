use Rattle.std.proofs.Common.{arith}
use Rattle.std.proofs.lemmas.Grind.{common_steps}
use Rattle.wd_traces.proofs.Members.{one_more}
use Rattle.wd_traces.proofs.known.insert_columns.Goals as goal

pub loop-column-preserved : goal.loop-column-preserved
loop-column-preserved c = grind (arith, common_steps, one_more)

pub returns : goal.returns
returns c = grind (arith, common_steps, one_more)
