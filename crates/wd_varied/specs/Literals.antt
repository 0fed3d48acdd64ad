-- The literals of a plan, the literals with which its conditions compare columns of tables, and the columns that they equate.
use Rattle.std.specs.Prelude.{ℕ, List, [], ◌∷◌, ◌++◌, flat_map, Option, Some, None, option_map, option_to_list}
use Rattle.wd_value.specs.declared.value.Value.{Value}
use Rattle.wd_plan.specs.Expressions.{Expression, Column, Literal, Negate, Arithmetic, Compare, Not, And, Or, IsNull, IsNotNull, Case}
use Rattle.wd_plan.specs.Plans.{PlanTree, Scan, Join, Over, Filter, Map}
use Rattle.wd_step_facts.specs.Steps.{Side, Plain, Fixed, Other, side_of}
use Rattle.wd_candidates.specs.declared.origins.TableColumn.{TableColumn}
use Rattle.wd_candidates.specs.Origins.{origin}
use Rattle.wd_plan.specs.declared.expression.ComparisonOp.{ComparisonOp}
use Rattle.wd_plan.specs.declared.expression.ComparisonOp.TheVariants.{Equal, NotEqual, Less, LessOrEqual, Greater, GreaterOrEqual}
use Rattle.wd_varied.specs.declared.conditions.Compared.{Compared}
use Rattle.wd_varied.specs.declared.conditions.Equated.{Equated}

-- ---- literals

-- the literals of an expression, those of a right operand before those of the left
abbrev pub literals_in : Expression → List Value
literals_in (Column c) = []
literals_in (Literal v kind) = v ∷ []
literals_in (Negate a) = literals_in a
literals_in (Arithmetic o a b) = literals_in b ++ literals_in a
literals_in (Compare o a b) = literals_in b ++ literals_in a
literals_in (Not a) = literals_in a
literals_in (And a b) = literals_in b ++ literals_in a
literals_in (Or a b) = literals_in b ++ literals_in a
literals_in (IsNull a) = literals_in a
literals_in (IsNotNull a) = literals_in a
literals_in (Case k a b c) = (literals_in a ++ literals_in b) ++ literals_in c

abbrev pub literals_of : Option Expression → List Value
literals_of None = []
literals_of (Some condition) = literals_in condition

-- the literals of a plan's conditions and outputs, the nodes in postorder
abbrev pub literals : PlanTree → List Value
literals (Scan table columns) = []
literals (Join condition left right) = (literals left ++ literals right) ++ literals_of condition
literals (Over (Filter condition) input) = literals input ++ literals_in condition
literals (Over (Map outputs) input) = literals input ++ flat_map literals_in outputs
literals (Over step input) = literals input

-- ---- comparisons of columns

abbrev pub with_value : Value → TableColumn → Compared
with_value v place = record { table = place.table; column = place.column; value = v }

-- `column < literal` or `literal < column`, of any comparison: the table's column that the column copies
abbrev pub compared_sides : (ℕ → Option TableColumn) → Side → Side → List Compared
compared_sides origins (Plain c) (Plain d) = []
compared_sides origins (Plain c) (Fixed v) = option_to_list (option_map (with_value v) (origins c))
compared_sides origins (Plain c) Other = []
compared_sides origins (Fixed v) (Plain c) = option_to_list (option_map (with_value v) (origins c))
compared_sides origins (Fixed v) (Fixed w) = []
compared_sides origins (Fixed v) Other = []
compared_sides origins Other b = []

-- the comparisons in a condition, also below OR and NOT, those of a right operand before those of the left
abbrev pub compared_in : (ℕ → Option TableColumn) → Expression → List Compared
compared_in origins (Column c) = []
compared_in origins (Literal v kind) = []
compared_in origins (Negate a) = []
compared_in origins (Arithmetic o a b) = []
compared_in origins (Compare o a b) = compared_sides origins (side_of a) (side_of b)
compared_in origins (Not a) = compared_in origins a
compared_in origins (And a b) = compared_in origins b ++ compared_in origins a
compared_in origins (Or a b) = compared_in origins b ++ compared_in origins a
compared_in origins (IsNull a) = compared_in origins a
compared_in origins (IsNotNull a) = compared_in origins a
compared_in origins (Case k a b c) = (compared_in origins a ++ compared_in origins b) ++ compared_in origins c

-- ---- equations of columns

abbrev pub with_left : TableColumn → TableColumn → Equated
with_left left right = record { left = left; right = right }

abbrev pub equated_origins : Option TableColumn → Option TableColumn → List Equated
equated_origins None right = []
equated_origins (Some left) right = option_to_list (option_map (with_left left) right)

-- `column = column`: the tables' columns that both copy
abbrev pub equated_sides : (ℕ → Option TableColumn) → Side → Side → List Equated
equated_sides origins (Plain c) (Plain d) = equated_origins (origins c) (origins d)
equated_sides origins (Plain c) (Fixed v) = []
equated_sides origins (Plain c) Other = []
equated_sides origins (Fixed v) b = []
equated_sides origins Other b = []

abbrev pub equated_by : ComparisonOp → (ℕ → Option TableColumn) → Side → Side → List Equated
equated_by Equal origins a b = equated_sides origins a b
equated_by NotEqual origins a b = []
equated_by Less origins a b = []
equated_by LessOrEqual origins a b = []
equated_by Greater origins a b = []
equated_by GreaterOrEqual origins a b = []

-- the equations that hold where a condition does, those of a right operand before those of the left
abbrev pub equated_in : (ℕ → Option TableColumn) → Expression → List Equated
equated_in origins (Compare o a b) = equated_by o origins (side_of a) (side_of b)
equated_in origins (And a b) = equated_in origins b ++ equated_in origins a
equated_in origins e = []

-- ---- in a plan

-- what is found in a Join's condition, if it has one
abbrev pub in_join : {X : Type 0} → ((ℕ → Option TableColumn) → Expression → List X) → (ℕ → Option TableColumn) → Option Expression → List X
in_join f origins None = []
in_join f origins (Some condition) = f origins condition

-- what is found in the conditions of all Filters and Joins by the origins of their columns, the nodes in postorder
abbrev pub in_conditions : {X : Type 0} → ((ℕ → Option TableColumn) → Expression → List X) → PlanTree → List X
in_conditions f (Scan table columns) = []
in_conditions f (Join condition left right) = (in_conditions f left ++ in_conditions f right) ++ in_join f (origin (Join condition left right)) condition
in_conditions f (Over (Filter condition) input) = in_conditions f input ++ f (origin input) condition
in_conditions f (Over step input) = in_conditions f input

abbrev pub compared : PlanTree → List Compared
compared plan = in_conditions compared_in plan

abbrev pub equated : PlanTree → List Equated
equated plan = in_conditions equated_in plan
