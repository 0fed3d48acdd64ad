use Rattle.wd_accept.proofs.Verdicts.{accepted_has_one as law}
use Rattle.wd_accept.proofs.laws.accepted_has_one.Goals as goal

pub returns : goal.returns
returns c = law c.one_meaning.ensures c.one_plan.ensures c.plans_fit.ensures c.valid_has_one.ensures
