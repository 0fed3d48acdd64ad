use Rattle.wd_query.proofs.OnePlan.{one_plan as law}
use Rattle.wd_query.proofs.laws.one_plan.Goals as goal

pub returns : goal.returns
returns c = law
