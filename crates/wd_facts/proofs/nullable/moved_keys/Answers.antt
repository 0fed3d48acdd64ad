use Rattle.std.proofs.Common.{arith}
use Rattle.std.proofs.lemmas.Grind.{common_steps}
use Rattle.wd_facts.proofs.Added.{moved_next}
use Rattle.wd_facts.proofs.nullable.moved_keys.Goals as goal

pub loop-key-preserved : goal.loop-key-preserved
loop-key-preserved c = grind (arith, common_steps, moved_next)

pub returns : goal.returns
returns c = grind (arith, common_steps, moved_next)
