use Rattle.wd_rules.proofs.Listed as laws
use Rattle.wd_rules.proofs.laws.listed_has_one.Goals as goal

pub returns : goal.returns
returns c = laws.listed_has_one
