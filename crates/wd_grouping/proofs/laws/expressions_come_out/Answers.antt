use Rattle.wd_grouping.proofs.Worked.{expressions_come_out as law}
use Rattle.wd_grouping.proofs.laws.expressions_come_out.Goals as goal

pub returns : goal.returns
returns c = law
