use Rattle.wd_resolve.proofs.Ordered.{ordered_end_in_limit as law}
use Rattle.wd_resolve.proofs.laws.ordered_end_in_limit.Goals as goal

pub returns : goal.returns
returns c = law
