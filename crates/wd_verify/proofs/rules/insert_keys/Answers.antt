use Rattle.std.proofs.Common.{arith}
use Rattle.std.proofs.lemmas.Grind.{common_steps}
use Rattle.wd_traces.proofs.Members.{one_more}
use Rattle.wd_verify.proofs.rules.insert_keys.Goals as goal

pub loop-key-preserved : goal.loop-key-preserved
loop-key-preserved c = grind (arith, common_steps, one_more)

pub returns : goal.returns
returns c = grind (arith, common_steps, one_more)
