use Rattle.wd_plan.proofs.GroupsRise as laws
use Rattle.wd_laws.proofs.laws.peer_groups_rise.Goals as goal

pub returns : goal.returns
returns c = laws.peer_groups_rise
