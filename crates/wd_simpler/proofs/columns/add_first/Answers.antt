use Rattle.std.proofs.lemmas.Grind.{common_steps}
use Rattle.std.proofs.Common.{arith}
use Rattle.wd_simpler.proofs.Sets.{also_none, also_position}
use Rattle.wd_simpler.proofs.columns.add_first.Goals as goal

pub loop-column-init : goal.loop-column-init
loop-column-init c = also_none c.args.set.now

pub loop-column-preserved : goal.loop-column-preserved
loop-column-preserved c = also_position c.args.set.now c.loop-column.set c.add_column.new.set c.loop-column.column c.loop-column.invariant c.in_ok-add_column.ensures

pub returns : goal.returns
returns c = grind (arith, common_steps)
