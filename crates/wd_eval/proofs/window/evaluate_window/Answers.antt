use Rattle.wd_plan.specs.Outcomes.{outcome_of}
use Rattle.wd_plan.specs.Plans.{window_of}
use Rattle.wd_eval.proofs.Cursors.{extended_under}
use Rattle.wd_eval.proofs.window.evaluate_window.Goals as goal

pub returns : goal.returns
returns c = extended_under outcome_of (window_of c.args.window.now) (outcome_of c.args.input) c.args.choice c.args.first _ _ c.extend_outcome.result c.extend_outcome.ensures
