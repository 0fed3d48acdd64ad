use Rattle.std.proofs.Common.{◌≡◌, ◌+◌}
use Rattle.std.specs.List.{sum_by}
use Rattle.wd_plan.specs.Expressions.{expression_of, value_of}
use Rattle.wd_scalar.specs.Waiting.{all_resumed, step_of, steps_left, waiting_steps}
use Rattle.wd_scalar.proofs.deep.deep_value.Given as goal

-- what waits, resumed with the step's value, gives the expression's
abbrev pub invariant-loop-step : goal.invariant-loop-step
invariant-loop-step l = all_resumed l.row l.waiting.items (step_of l.row l.step) ≡ value_of (expression_of l.expression) l.row

abbrev pub decreases-loop-step : goal.decreases-loop-step
decreases-loop-step l = sum_by waiting_steps l.waiting.items + steps_left l.step
