-- What a node of a plan gives to the step above it, as contracts see it, and the steps over that.
use Rattle.std.specs.Prelude.{◌≡◌, ℕ, true, false, List, Option, option_map, Result, Ok, Err, ⊤}
use Rattle.wd_value.specs.declared.value.Fault.{Fault}
use Rattle.wd_value.specs.Rows.{Instance, Row, table_at}
use Rattle.wd_plan.specs.declared.expression.Expr.{Expr}
use Rattle.wd_plan.specs.Expressions.{Expression, expression_of}
use Rattle.wd_plan.specs.Faults.{and_then}
use Rattle.wd_plan.specs.Outcomes.{RowsOrFault, group_outcome, join_outcome, pairs}
use Rattle.wd_plan.specs.Plans.{GroupRule}
use Rattle.wd_join.specs.declared.error.StepError.{StepError}
use Rattle.wd_join.specs.declared.error.StepError.TheVariants.{TooManyRows, OutOfMemory}
use Rattle.wd_join.specs.Joins.{has_more_rows}
use Rattle.wd_joined.specs.Pairs.{rows_paired}
use Rattle.wd_nodes.specs.Results.{OkOr}
use Rattle.wd_nodes.specs.declared.relation.Relation.{Relation}
use Rattle.wd_nodes.specs.declared.relation.Relation.TheVariants.{Stored, Pairs', Joined}
use Rattle.wd_nodes.specs.declared.stored.StoredRows.{StoredRows}
use Rattle.wd_nodes.specs.declared.stored.StoredRows.TheVariants.{Table, Own}

-- rows that are there: those of a table of the instance, or rows of their own
abbrev pub stored_rows_of : Instance → StoredRows → List Row
stored_rows_of instance (Table number) = table_at instance number
stored_rows_of instance (Own rows) = rows

-- such rows, or pairs
abbrev pub relation_of : Instance → Relation → List Row
relation_of instance (Stored s) = stored_rows_of instance s
relation_of instance (Pairs' p left right) = pairs (relation_of instance left) (stored_rows_of instance right)
relation_of instance (Joined left right pairs) = rows_paired (stored_rows_of instance left) (stored_rows_of instance right) pairs.items

-- what a node gives: a relation, or a fault
abbrev pub RelationOrFault : Type 0
RelationOrFault = Result Relation Fault

abbrev pub relation_or_fault_of : Instance → RelationOrFault → RowsOrFault
relation_or_fault_of instance (Ok relation) = Ok (relation_of instance relation)
relation_or_fault_of instance (Err fault) = Err fault

-- what a Join gives over what is below it
abbrev pub join_over : Option Expression → RowsOrFault → RowsOrFault → RowsOrFault
join_over condition left right = and_then left (λ ls. and_then right (λ rs. join_outcome condition (pairs ls rs)))

-- what a Group gives over what is below it
abbrev pub group_over : GroupRule → RowsOrFault → RowsOrFault
group_over rule input = and_then input (group_outcome rule)

-- ---- steps over the outcomes below them

-- the most rows that a step may have, where nothing less is asked for
abbrev pub most_rows : ℕ
most_rows = 10000000

-- an outcome of at most so many rows
pub record IsSmall (most : ℕ) (expected found : RowsOrFault) : Type 0 where
  pub is : found ≡ expected
  pub small : has_more_rows most expected ≡ false

-- too many rows only where it has more
abbrev pub IsLarge : ℕ → RowsOrFault → StepError → Type 0
IsLarge most expected TooManyRows = has_more_rows most expected ≡ true
IsLarge most expected OutOfMemory = ⊤

-- that outcome, as the view of a value has it, or that error
abbrev pub IsSmallOrLarge : {X : Type 0} → ℕ → RowsOrFault → (X → RowsOrFault) → Result X StepError → Type 0
IsSmallOrLarge most expected view r = OkOr (λ x. IsSmall most expected (view x)) (IsLarge most expected) r

-- what a Join gives, of its condition and inputs in the code
abbrev pub joined_of : Instance → Option Expr → RelationOrFault → RelationOrFault → RowsOrFault
joined_of instance condition left right = join_over (option_map expression_of condition) (relation_or_fault_of instance left) (relation_or_fault_of instance right)
