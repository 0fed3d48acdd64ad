use Rattle.wd_rules.proofs.Sound as laws
use Rattle.wd_rules.proofs.laws.never_both.Goals as goal

pub returns : goal.returns
returns c = laws.never_both
