-- What waits for the value of an operand, where an expression is evaluated by a loop.
use Rattle.std.specs.Prelude.{ℕ, ◌+◌, List, [], ◌∷◌, Result}
use Rattle.wd_value.specs.declared.value.Value.{Value}
use Rattle.wd_value.specs.declared.value.Fault.{Fault}
use Rattle.wd_value.specs.Rows.{Row}
use Rattle.wd_plan.specs.Expressions.{expression_of, value_of}
use Rattle.wd_plan.specs.Faults.{and_then}
use Rattle.wd_plan.specs.Walks.{rest_steps, steps}
use Rattle.wd_scalar.specs.Operands.{applied_to, combined}
use Rattle.wd_scalar.specs.declared.deep.Waiting.{Waiting}
use Rattle.wd_scalar.specs.declared.deep.Waiting.TheVariants as waiting
use Rattle.wd_scalar.specs.declared.deep.Step.{Step}
use Rattle.wd_scalar.specs.declared.deep.Step.TheVariants as step

-- the value of what waits, from that of the operand
abbrev pub resumed : Row → Waiting → Result Value Fault → Result Value Fault
resumed row (waiting.First e) r = and_then r (applied_to (expression_of e.now) row)
resumed row (waiting.Right e left) r = combined (expression_of e.now) left r

-- the value of the whole expression of all that waits, from the last on
abbrev pub all_resumed : Row → List Waiting → Result Value Fault → Result Value Fault
all_resumed row [] r = r
all_resumed row (outer ∷ inner) r = resumed row outer (all_resumed row inner r)

-- the value of the whole expression that a step stands for
abbrev pub step_of : Row → Step → Result Value Fault
step_of row (step.Made r) = r
step_of row (step.Into outer part) = resumed row outer (value_of (expression_of part.now) row)

-- how many steps are left after an operand
abbrev pub waiting_steps : Waiting → ℕ
waiting_steps (waiting.First e) = rest_steps (expression_of e.now)
waiting_steps (waiting.Right e left) = 1

abbrev pub steps_left : Step → ℕ
steps_left (step.Made r) = 0
steps_left (step.Into outer part) = steps (expression_of part.now) + waiting_steps outer
