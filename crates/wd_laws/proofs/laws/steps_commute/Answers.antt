use Rattle.wd_laws.proofs.NodesCommute as laws
use Rattle.wd_laws.proofs.laws.steps_commute.Goals as goal

pub returns : goal.returns
returns c = laws.steps_commute
