use Rattle.wd_plan.specs.Plans.{plan_of}
use Rattle.wd_eval.proofs.Walking.{height}
use Rattle.wd_eval.proofs.node.+evaluate.Given as goal

abbrev pub decreases-evaluate : goal.decreases-evaluate
decreases-evaluate l = height (plan_of l.plan.now)
