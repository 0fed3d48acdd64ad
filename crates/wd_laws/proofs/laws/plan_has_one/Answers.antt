use Rattle.wd_laws.proofs.TheLaws as laws
use Rattle.wd_laws.proofs.laws.plan_has_one.Goals as goal

pub returns : goal.returns
returns c = laws.plan_has_one
