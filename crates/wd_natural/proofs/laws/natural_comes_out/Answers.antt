use Rattle.wd_natural.proofs.Worked.{natural_comes_out as law}
use Rattle.wd_natural.proofs.laws.natural_comes_out.Goals as goal

pub returns : goal.returns
returns c = law
