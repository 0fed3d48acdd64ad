use Rattle.wd_accept.proofs.Listed.{ordered_have_limit as law}
use Rattle.wd_accept.proofs.laws.ordered_have_limit.Goals as goal

pub returns : goal.returns
returns c = law c.ordered_end_in_limit.ensures
