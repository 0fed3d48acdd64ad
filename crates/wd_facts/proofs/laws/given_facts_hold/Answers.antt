use Rattle.wd_facts.proofs.GivenHolds as laws
use Rattle.wd_facts.proofs.laws.given_facts_hold.Goals as goal

pub returns : goal.returns
returns c = laws.given_facts_hold
