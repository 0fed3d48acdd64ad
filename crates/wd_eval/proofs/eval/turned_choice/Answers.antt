use Rattle.std.proofs.lemmas.Result.{err_from_is_err_and}
use Rattle.wd_eval.proofs.eval.turned_choice.Goals as goal

pub returns-in_err-choice : goal.returns-in_err-choice
returns-in_err-choice c = let p = err_from_is_err_and c.from_residual.result c.from_residual.ensures.1 in rw (p.1, p.2) (record { ok = tt; refused = c.in_err-choice.ensures.refused })

pub returns : goal.returns
returns c = record { ok = c.in_ok-choice.ensures.walked.choice; refused = tt }
