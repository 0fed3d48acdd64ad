use Rattle.wd_operands.proofs.Worked.{operands_come_out as law}
use Rattle.wd_operands.proofs.laws.operands_come_out.Goals as goal

pub returns : goal.returns
returns c = law
