use Rattle.wd_eval.proofs.SomeTied as laws
use Rattle.wd_eval.proofs.laws.has_one_stable_outcome.Goals as goal

pub returns : goal.returns
returns c = laws.has_one_stable_outcome
