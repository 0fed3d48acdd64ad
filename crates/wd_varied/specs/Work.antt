-- The work of an evaluation for each row of the pairs of a plan's tables, in units of about five nanoseconds.
use Rattle.std.specs.Prelude.{ℕ, ◌+◌, ◌*◌, List, [], ◌∷◌, length, Option, Some, None}
use Rattle.wd_plan.specs.Expressions.{Expression, Column, Literal, Negate, Arithmetic, Compare, Not, And, Or, IsNull, IsNotNull, Case}
use Rattle.wd_plan.specs.Plans.{ClassRule, Step, PlanTree, Scan, Join, Over, Filter, Map, Group, Window, Distinct, Limit}

-- 3 for each column and each literal that an expression reads
abbrev pub expression_work : Expression → ℕ
expression_work (Column c) = 3
expression_work (Literal v kind) = 3
expression_work (Negate a) = expression_work a
expression_work (Arithmetic o a b) = expression_work b + expression_work a
expression_work (Compare o a b) = expression_work b + expression_work a
expression_work (Not a) = expression_work a
expression_work (And a b) = expression_work b + expression_work a
expression_work (Or a b) = expression_work b + expression_work a
expression_work (IsNull a) = expression_work a
expression_work (IsNotNull a) = expression_work a
expression_work (Case k a b c) = (expression_work a + expression_work b) + expression_work c

abbrev pub condition_work : Option Expression → ℕ
condition_work None = 0
condition_work (Some condition) = expression_work condition

abbrev pub expressions_work : List Expression → ℕ
expressions_work [] = 0
expressions_work (e ∷ es) = expression_work e + expressions_work es

-- the work of sorting or partitioning rows by the given number of columns
abbrev pub columns_work : ℕ → ℕ
columns_work n = 20 + 4 * n

abbrev pub classes_work : List ClassRule → ℕ
classes_work [] = 0
classes_work (c ∷ cs) = columns_work (length c.partition + length c.order) + classes_work cs

abbrev pub sets_work : List (List ℕ) → ℕ
sets_work [] = 0
sets_work (set ∷ sets) = columns_work (length set) + sets_work sets

-- the work of a step for each row; 5 for each call
abbrev pub step_work : Step → ℕ
step_work (Filter condition) = expression_work condition
step_work (Map outputs) = expressions_work outputs
step_work (Group g) = sets_work g.sets + 5 * length g.calls
step_work (Window w) = classes_work w.classes + 5 * length w.calls
step_work Distinct = columns_work 0
step_work (Limit limit) = columns_work (length limit.keys)

-- 12 for each column of a table
abbrev pub row_work : PlanTree → ℕ
row_work (Scan table columns) = 12 * columns
row_work (Join condition left right) = (row_work left + row_work right) + condition_work condition
row_work (Over step input) = row_work input + step_work step
