use Rattle.wd_facts.proofs.Keys as laws
use Rattle.wd_facts.proofs.laws.dependencies_are_facts.Goals as goal

pub returns : goal.returns
returns c = laws.dependencies_are_facts
