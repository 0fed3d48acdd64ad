use Rattle.wd_certain.proofs.HasOne.{simpler_has_one as law}
use Rattle.wd_certain.proofs.laws.simpler_has_one.Goals as goal

pub returns : goal.returns
returns c = law c.agreeing_is_an_equivalence.ensures c.plan_commutes.ensures c.simpler_is_alike.ensures
