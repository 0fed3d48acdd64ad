use Rattle.wd_eval.proofs.SomeTied as laws
use Rattle.wd_eval.proofs.laws.has_stable_choice.Goals as goal

pub returns : goal.returns
returns c = laws.has_stable_choice
