use Rattle.wd_decide.proofs.Shown.{true_of}
use Rattle.wd_decide.proofs.laws.reported_are_true.Goals as goal

pub returns : goal.returns
returns c = true_of c.one_meaning.ensures c.one_plan.ensures c.shown_is_not_refused.ensures
