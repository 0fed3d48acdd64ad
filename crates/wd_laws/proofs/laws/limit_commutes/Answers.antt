use Rattle.wd_laws.proofs.NodesCommute as laws
use Rattle.wd_laws.proofs.laws.limit_commutes.Goals as goal

pub returns : goal.returns
returns c = laws.limit_commutes
