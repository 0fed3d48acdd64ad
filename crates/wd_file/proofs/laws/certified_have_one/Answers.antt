use Rattle.wd_file.proofs.Certified.{certified_have_one as law}
use Rattle.wd_file.proofs.laws.certified_have_one.Goals as goal

pub returns : goal.returns
returns c = law c.one_meaning.ensures c.one_plan.ensures c.plans_fit.ensures c.valid_has_one.ensures c.reported_are_sound.ensures
