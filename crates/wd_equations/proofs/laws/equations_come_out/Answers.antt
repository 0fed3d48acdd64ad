use Rattle.wd_equations.proofs.Worked.{equations_come_out as law}
use Rattle.wd_equations.proofs.laws.equations_come_out.Goals as goal

pub returns : goal.returns
returns c = law
