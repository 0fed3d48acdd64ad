use Rattle.wd_close.proofs.Worked.{closures_come_out}
use Rattle.wd_close.proofs.laws.closures_come_out.Goals as goal

pub returns : goal.returns
returns c = closures_come_out
