use Rattle.wd_using.proofs.Worked.{using_comes_out as law}
use Rattle.wd_using.proofs.laws.using_comes_out.Goals as goal

pub returns : goal.returns
returns c = law
