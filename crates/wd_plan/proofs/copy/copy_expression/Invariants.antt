use Rattle.std.proofs.Common.{◌≡◌, ◌+◌}
use Rattle.std.specs.List.{sum_by}
use Rattle.wd_plan.specs.Expressions.{expression_of}
use Rattle.wd_plan.specs.Copies.{all_closed, step_tree, steps_left, waiting_steps}
use Rattle.wd_plan.proofs.copy.copy_expression.Given as goal

-- what waits, closed with the step's copy, is the expression
abbrev pub invariant-loop-step : goal.invariant-loop-step
invariant-loop-step l = all_closed l.waiting.items (step_tree l.step) ≡ expression_of l.expression

abbrev pub decreases-loop-step : goal.decreases-loop-step
decreases-loop-step l = sum_by waiting_steps l.waiting.items + steps_left l.step
