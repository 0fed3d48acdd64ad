use Rattle.wd_group.proofs.Firsts.{begins_first, begins_none}
use Rattle.wd_group.proofs.step.begins_at.Goals as goal

pub returns-in-Some : goal.returns-in-Some
returns-in-Some c = begins_first c.args.positions.now c.in-Some.first.now c.args.position c.in-Some.ensures.value

pub returns-in-None : goal.returns-in-None
returns-in-None c = begins_none c.args.positions.now c.args.position c.in-None.ensures.value
