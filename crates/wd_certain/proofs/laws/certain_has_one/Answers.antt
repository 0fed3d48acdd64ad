use Rattle.wd_certain.proofs.HasOne.{certain_has_one as law}
use Rattle.wd_certain.proofs.laws.certain_has_one.Goals as goal

pub returns : goal.returns
returns c = law c.one_meaning.ensures c.one_plan.ensures c.plans_fit.ensures c.valid_has_one.ensures c.simpler_has_one.ensures
