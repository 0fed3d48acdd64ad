use Rattle.wd_laws.proofs.TheLaws as laws
use Rattle.wd_laws.proofs.laws.limit_has_one.Goals as goal

pub returns : goal.returns
returns c = laws.limit_has_one
