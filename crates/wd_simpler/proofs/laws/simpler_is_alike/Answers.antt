use Rattle.wd_simpler.proofs.Plans.{simpler_is_alike as law}
use Rattle.wd_simpler.proofs.laws.simpler_is_alike.Goals as goal

pub returns : goal.returns
returns c = law
