use Rattle.wd_membership.proofs.Worked.{membership_comes_out as law}
use Rattle.wd_membership.proofs.laws.membership_comes_out.Goals as goal

pub returns : goal.returns
returns c = law
