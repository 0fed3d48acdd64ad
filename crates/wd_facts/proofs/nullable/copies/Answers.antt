use Rattle.std.proofs.Common.{arith}
use Rattle.std.proofs.lemmas.Grind.{common_steps}
use Rattle.wd_facts.proofs.Added.{copies_next, copies_stop}
use Rattle.wd_facts.proofs.nullable.copies.Goals as goal

pub loop-column-preserved : goal.loop-column-preserved
loop-column-preserved c = grind (arith, common_steps, copies_next, copies_stop)

pub returns : goal.returns
returns c = grind (arith, common_steps, copies_next, copies_stop)
