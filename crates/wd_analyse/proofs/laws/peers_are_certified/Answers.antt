use Rattle.wd_analyse.proofs.Peers.{peers_are_certified as law}
use Rattle.wd_analyse.proofs.laws.peers_are_certified.Goals as goal

pub returns : goal.returns
returns c = law
