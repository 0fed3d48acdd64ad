use Rattle.wd_eval.proofs.Wrong as laws
use Rattle.wd_eval.proofs.laws.has_no_wrong_ordering.Goals as goal

pub returns : goal.returns
returns c = laws.has_no_wrong_ordering
