use Rattle.wd_laws.proofs.PlanCommutes as laws
use Rattle.wd_laws.proofs.laws.plan_commutes.Goals as goal

pub returns : goal.returns
returns c = laws.plan_commutes
