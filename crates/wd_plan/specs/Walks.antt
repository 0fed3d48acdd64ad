-- How many steps a walk over an expression takes at most, which goes into its operands from the first on.
use Rattle.std.specs.Prelude.{ℕ, ◌+◌}
use Rattle.wd_plan.specs.Expressions.{Expression, Column, Literal, Negate, Arithmetic, Compare, Not, And, Or, IsNull, IsNotNull, Case}

abbrev pub steps : Expression → ℕ
steps (Column c) = 1
steps (Literal v kind) = 1
steps (Negate a) = steps a + 2
steps (Arithmetic op a b) = steps a + steps b + 3
steps (Compare op a b) = steps a + steps b + 3
steps (Not a) = steps a + 2
steps (And a b) = steps a + steps b + 3
steps (Or a b) = steps a + steps b + 3
steps (IsNull a) = steps a + 2
steps (IsNotNull a) = steps a + 2
steps (Case branch a b c) = steps a + steps b + steps c + 4

-- the steps left after the first operand
abbrev pub rest_steps : Expression → ℕ
rest_steps (Column c) = 1
rest_steps (Literal v kind) = 1
rest_steps (Negate a) = 1
rest_steps (Arithmetic op a b) = steps b + 2
rest_steps (Compare op a b) = steps b + 2
rest_steps (Not a) = 1
rest_steps (And a b) = steps b + 2
rest_steps (Or a b) = steps b + 2
rest_steps (IsNull a) = 1
rest_steps (IsNotNull a) = 1
rest_steps (Case branch a b c) = steps b + steps c + 3

-- the steps left after the second operand
abbrev pub second_rest : Expression → ℕ
second_rest (Case branch a b c) = steps c + 2
second_rest e = 1
