use Rattle.wd_decide.proofs.Lists.{others_are_verdicts as law}
use Rattle.wd_decide.proofs.laws.others_are_verdicts.Goals as goal

pub returns : goal.returns
returns c = law
