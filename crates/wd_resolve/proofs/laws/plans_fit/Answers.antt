use Rattle.wd_resolve.proofs.FromFits.{plans_fit as law}
use Rattle.wd_resolve.proofs.laws.plans_fit.Goals as goal

pub returns : goal.returns
returns c = law
