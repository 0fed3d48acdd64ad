use Rattle.std.proofs.Common.{arith}
use Rattle.std.proofs.lemmas.Grind.{common_steps}
use Rattle.wd_steps.proofs.distinct.marked_neighbours.Goals as goal

pub returns : goal.returns
returns c = grind (arith, common_steps)
