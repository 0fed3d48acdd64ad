use Rattle.wd_rules.proofs.Lists as laws
use Rattle.wd_rules.proofs.laws.plan_has_one_list.Goals as goal

pub returns : goal.returns
returns c = laws.plan_has_one_list
