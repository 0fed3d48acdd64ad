use Rattle.wd_accept.proofs.Verdicts.{not_both as law}
use Rattle.wd_accept.proofs.laws.not_both.Goals as goal

pub returns : goal.returns
returns c = law c.one_meaning.ensures c.one_plan.ensures c.is_read_back.ensures
