use Rattle.std.proofs.Common.{◌+◌, ◌≤◌}
use Rattle.wd_value.specs.Rows.{instance_of}
use Rattle.wd_plan.specs.Plans.{plan_of}
use Rattle.wd_seek.specs.Evaluations.{AllPass, most_evaluations}
use Rattle.wd_seek.proofs.probed.other_choice.Given as goal

abbrev pub invariant-loop-flipped : goal.invariant-loop-flipped
invariant-loop-flipped l = (l.spent + l.flipped ≤ most_evaluations) × AllPass l.turn (plan_of l.plan) (instance_of l.instance.items) (l.flipped + 1)
