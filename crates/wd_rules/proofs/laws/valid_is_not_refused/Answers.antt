use Rattle.wd_rules.proofs.Valid as laws
use Rattle.wd_rules.proofs.laws.valid_is_not_refused.Goals as goal

pub returns : goal.returns
returns c = laws.valid_is_not_refused
