use Rattle.wd_facts.proofs.GivenHolds as laws
use Rattle.wd_facts.proofs.laws.known_holds.Goals as goal

pub returns : goal.returns
returns c = laws.known_holds
