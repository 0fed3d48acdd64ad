use Rattle.wd_accept.proofs.Listed.{listed_has_one_list as law}
use Rattle.wd_accept.proofs.laws.listed_has_one_list.Goals as goal

pub returns : goal.returns
returns c = law c.one_meaning.ensures c.one_plan.ensures c.plans_fit.ensures c.listed_has_one.ensures
