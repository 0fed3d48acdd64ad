use Rattle.wd_analyse.proofs.Lists as laws
use Rattle.wd_analyse.proofs.laws.keys_come_first.Goals as goal

pub returns : goal.returns
returns c = laws.keys_come_first
