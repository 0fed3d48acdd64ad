use Rattle.wd_laws.proofs.Extremes as laws
use Rattle.wd_laws.proofs.laws.extremes_are_first.Goals as goal

pub returns : goal.returns
returns c = laws.extremes_are_first
