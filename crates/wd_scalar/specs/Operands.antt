-- The value of an expression, from that of its first operand.
use Rattle.std.specs.Prelude.{not, Result, Ok, if◌then◌else◌}
use Rattle.wd_value.specs.declared.value.Value.{Value}
use Rattle.wd_value.specs.declared.value.Value.TheVariants.{Null, Bool as Truth}
use Rattle.wd_value.specs.declared.value.Fault.{Fault}
use Rattle.wd_value.specs.Rows.{Row}
use Rattle.wd_plan.specs.Expressions.{Expression, Column, Literal, Negate, Arithmetic, Compare, Not, And, Or, IsNull, IsNotNull, Case, and_result, and_value, arithmetic_value, comparison, is_null, is_true, negated, not_value, or_result, or_value, value_of}
use Rattle.wd_plan.specs.Faults.{and_then}

-- the value of an expression whose first operand or condition has this value; not used for an expression without one
abbrev pub applied_to : Expression → Row → Value → Result Value Fault
applied_to (Negate a) row v = negated v
applied_to (Not a) row v = Ok (not_value v)
applied_to (IsNull a) row v = Ok (Truth (is_null v))
applied_to (IsNotNull a) row v = Ok (Truth (not (is_null v)))
applied_to (Arithmetic op a b) row v = and_then (value_of b row) (λ w. arithmetic_value op v w)
applied_to (Compare op a b) row v = and_then (value_of b row) (λ w. Ok (comparison op v w))
applied_to (And a b) row v = and_result v (value_of b row)
applied_to (Or a b) row v = or_result v (value_of b row)
applied_to (Case branch a b c) row v = if is_true v then value_of b row else value_of c row
applied_to (Column c) row v = Ok Null
applied_to (Literal w kind) row v = Ok Null

-- the value of an operator, where the left operand has this value and doesn't decide
abbrev pub combined : Expression → Value → Result Value Fault → Result Value Fault
combined (Arithmetic op a b) v right = and_then right (λ w. arithmetic_value op v w)
combined (Compare op a b) v right = and_then right (λ w. Ok (comparison op v w))
combined (And a b) v right = and_then right (λ w. Ok (and_value v w))
combined (Or a b) v right = and_then right (λ w. Ok (or_value v w))
combined e v right = right
