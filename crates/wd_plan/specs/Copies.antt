-- Expressions whose operands are being copied, by a loop.
use Rattle.std.specs.Prelude.{ℕ, ◌+◌, List, [], ◌∷◌}
use Rattle.wd_plan.specs.Expressions.{Expression, Column, Literal, Negate, Arithmetic, Compare, Not, And, Or, IsNull, IsNotNull, Case, expression_of}
use Rattle.wd_plan.specs.Walks.{rest_steps, second_rest, steps}
use Rattle.wd_plan.specs.declared.copy.Waiting.{Waiting}
use Rattle.wd_plan.specs.declared.copy.Waiting.TheVariants as waiting
use Rattle.wd_plan.specs.declared.copy.Step.{Step}
use Rattle.wd_plan.specs.declared.copy.Step.TheVariants as step

-- the expression with another first operand; not used for one without operands
abbrev pub first_copied : Expression → Expression → Expression
first_copied (Column c) x = x
first_copied (Literal v kind) x = x
first_copied (Negate a) x = Negate x
first_copied (Arithmetic op a b) x = Arithmetic op x b
first_copied (Compare op a b) x = Compare op x b
first_copied (Not a) x = Not x
first_copied (And a b) x = And x b
first_copied (Or a b) x = Or x b
first_copied (IsNull a) x = IsNull x
first_copied (IsNotNull a) x = IsNotNull x
first_copied (Case branch a b c) x = Case branch x b c

-- the expression with two other operands
abbrev pub second_copied : Expression → Expression → Expression → Expression
second_copied (Arithmetic op a b) x y = Arithmetic op x y
second_copied (Compare op a b) x y = Compare op x y
second_copied (And a b) x y = And x y
second_copied (Or a b) x y = Or x y
second_copied (Case branch a b c) x y = Case branch x y c
second_copied e x y = y

-- the expression with three other operands
abbrev pub third_copied : Expression → Expression → Expression → Expression → Expression
third_copied (Case branch a b c) x y z = Case branch x y z
third_copied e x y z = z

-- the whole expression that a waiting one becomes with this operand
abbrev pub closed_tree : Waiting → Expression → Expression
closed_tree (waiting.First e) x = first_copied (expression_of e.now) x
closed_tree (waiting.Second e a) y = second_copied (expression_of e.now) (expression_of a.value) y
closed_tree (waiting.Third e a b) z = third_copied (expression_of e.now) (expression_of a.value) (expression_of b.value) z

-- the whole expression of all that wait, from the last on
abbrev pub all_closed : List Waiting → Expression → Expression
all_closed [] x = x
all_closed (outer ∷ inner) x = closed_tree outer (all_closed inner x)

-- the whole expression that a step stands for
abbrev pub step_tree : Step → Expression
step_tree (step.Made e) = expression_of e
step_tree (step.Into outer part) = closed_tree outer (expression_of part.now)

abbrev pub waiting_steps : Waiting → ℕ
waiting_steps (waiting.First e) = rest_steps (expression_of e.now)
waiting_steps (waiting.Second e a) = second_rest (expression_of e.now)
waiting_steps (waiting.Third e a b) = 1

abbrev pub steps_left : Step → ℕ
steps_left (step.Made e) = 0
steps_left (step.Into outer part) = steps (expression_of part.now) + waiting_steps outer
