-- Expressions that may have a fault.
use Rattle.std.specs.Prelude.{Bool, true, false, ◌||◌}
use Rattle.wd_plan.specs.Expressions.{Expression, Column, Literal, Negate, Arithmetic, Compare, Not, And, Or, IsNull, IsNotNull, Case}

-- some operation on whole numbers is in the expression; without one it has no fault
abbrev pub has_arithmetic : Expression → Bool
has_arithmetic (Column c) = false
has_arithmetic (Literal v kind) = false
has_arithmetic (Negate a) = true
has_arithmetic (Arithmetic op a b) = true
has_arithmetic (Compare op a b) = has_arithmetic a || has_arithmetic b
has_arithmetic (Not a) = has_arithmetic a
has_arithmetic (And a b) = has_arithmetic a || has_arithmetic b
has_arithmetic (Or a b) = has_arithmetic a || has_arithmetic b
has_arithmetic (IsNull a) = has_arithmetic a
has_arithmetic (IsNotNull a) = has_arithmetic a
has_arithmetic (Case branch a b c) = has_arithmetic a || (has_arithmetic b || has_arithmetic c)
