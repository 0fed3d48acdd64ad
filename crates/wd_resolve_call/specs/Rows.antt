-- What an expression reads of the rows that windows are over: a column of FROM, or, where the rows are groups, an aggregate of a group's
-- rows or a mask of the columns that its set lacks (SQL, value expression primary, set function specification; PG, Aggregate Expressions,
-- Grouping Operations).
use Rattle.std.specs.Prelude.{ℕ, Bool, true, false, List, [], ◌∷◌, nat_eq, Option, Some, None, Ok, Err}
use lib.Pointwise.{pointwise}
use Rattle.wd_plan.specs.declared.expression.ValueKind.{ValueKind}
use Rattle.wd_plan.specs.declared.expression.ValueKind.TheVariants.{Number}
use Rattle.wd_plan.specs.Expressions.{Expression, expression_of}
use Rattle.wd_plan.specs.Equality.{same_expression}
use Rattle.wd_resolve_operand.specs.declared.cause.Cause.TheVariants.{GroupCallNotAllowed}
use Rattle.wd_resolve_operand.specs.Causes.{Meant}
use Rattle.wd_resolve_operand.specs.BoundExpressions as expressions
use Rattle.wd_resolve_operand.specs.BoundExpressions.{BoundExpression, over_columns, same_bound_expression}
use Rattle.wd_resolve_operand.specs.declared.expression.BoundExpression.{BoundExpression as BoundExpressionCode}
use Rattle.wd_resolve_call.specs.declared.row.AppliedAggregate.{AppliedAggregate}
use Rattle.wd_resolve_call.specs.declared.row.AppliedAggregate.TheVariants as aggregate_code
use Rattle.wd_resolve_call.specs.declared.row.GroupCall.{GroupCall as CallCode}
use Rattle.wd_resolve_call.specs.declared.row.GroupCall.TheVariants as call_code
use Rattle.wd_resolve_call.specs.declared.row.RowReference.{RowReference as ReferenceCode}
use Rattle.wd_resolve_call.specs.declared.row.RowReference.TheVariants as reference_code
use Rattle.wd_resolve_call.specs.declared.row.ValueArgument.{ValueArgument}

-- ---- aggregates, whose arguments are expressions E

-- an expression as the argument of a function, and the kind of its values
pub record BoundArgument (E : Type 0) : Type 0 where
  pub expression : E
  pub kind : ValueKind

-- an aggregate over its argument; the order of the rows does not matter
pub data BoundAggregate (E : Type 0) : Type 0 where
  -- COUNT of a star
  count_rows : BoundAggregate E
  count_of : BoundArgument E → BoundAggregate E
  sum_of : BoundArgument E → BoundAggregate E
  -- MIN and MAX
  least_of : BoundArgument E → BoundAggregate E
  greatest_of : BoundArgument E → BoundAggregate E

-- the kind of an aggregate's values
abbrev pub kind_of_aggregate : {E : Type 0} → BoundAggregate E → ValueKind
kind_of_aggregate count_rows = Number
kind_of_aggregate (count_of a) = Number
kind_of_aggregate (sum_of a) = Number
kind_of_aggregate (least_of a) = a.kind
kind_of_aggregate (greatest_of a) = a.kind

-- the value argument of an aggregate; COUNT of a star has none
abbrev pub aggregated : {E : Type 0} → BoundAggregate E → List E
aggregated count_rows = []
aggregated (count_of a) = a.expression ∷ []
aggregated (sum_of a) = a.expression ∷ []
aggregated (least_of a) = a.expression ∷ []
aggregated (greatest_of a) = a.expression ∷ []

abbrev pub same_argument : {E : Type 0} → (E → E → Bool) → BoundArgument E → BoundArgument E → Bool
same_argument same a b = same a.expression b.expression

abbrev pub same_aggregate : {E : Type 0} → (E → E → Bool) → BoundAggregate E → BoundAggregate E → Bool
same_aggregate same count_rows count_rows = true
same_aggregate same (count_of a) (count_of b) = same_argument same a b
same_aggregate same (sum_of a) (sum_of b) = same_argument same a b
same_aggregate same (least_of a) (least_of b) = same_argument same a b
same_aggregate same (greatest_of a) (greatest_of b) = same_argument same a b
same_aggregate same a b = false

-- ---- references of rows

-- a call over the rows of a group
pub data GroupCall : Type 0 where
  -- an aggregate over the columns of FROM
  of_rows : BoundAggregate Expression → GroupCall
  -- GROUPING of columns of FROM
  grouping : List ℕ → GroupCall

pub data RowReference : Type 0 where
  -- a column of FROM, by its number
  column : ℕ → RowReference
  of_group : GroupCall → RowReference

-- an expression of a window or of its calls
abbrev pub RowExpression : Type 0
RowExpression = BoundExpression RowReference

abbrev pub kind_of_group_call : GroupCall → ValueKind
kind_of_group_call (of_rows a) = kind_of_aggregate a
kind_of_group_call (grouping columns) = Number

-- equal calls are one function over equal arguments
abbrev pub same_group_call : GroupCall → GroupCall → Bool
same_group_call (of_rows a) (of_rows b) = same_aggregate same_expression a b
same_group_call (grouping cs) (grouping ds) = pointwise nat_eq cs ds
same_group_call c d = false

-- equal references
abbrev pub same_row_reference : RowReference → RowReference → Bool
same_row_reference (column m) (column n) = nat_eq m n
same_row_reference (of_group c) (of_group d) = same_group_call c d
same_row_reference a b = false

abbrev pub same_row_expression : RowExpression → RowExpression → Bool
same_row_expression f g = same_bound_expression same_row_reference f g

-- ---- the columns of FROM alone

abbrev pub from_column : RowReference → Meant ℕ
from_column (column n) = Ok n
from_column (of_group c) = Err GroupCallNotAllowed

-- an expression over the columns of FROM alone
abbrev pub over_from : RowExpression → Meant Expression
over_from f = over_columns from_column f

-- ---- what values of the code show

abbrev pub argument_of : {C E : Type 0} → (C → E) → ValueArgument C → BoundArgument E
argument_of shown a = record { expression = shown a.expression; kind = a.kind }

abbrev pub aggregate_of : {C E : Type 0} → (C → E) → AppliedAggregate C → BoundAggregate E
aggregate_of shown aggregate_code.CountRows = count_rows
aggregate_of shown (aggregate_code.Count a) = count_of (argument_of shown a)
aggregate_of shown (aggregate_code.Sum a) = sum_of (argument_of shown a)
aggregate_of shown (aggregate_code.Min a) = least_of (argument_of shown a)
aggregate_of shown (aggregate_code.Max a) = greatest_of (argument_of shown a)

-- the value argument of an aggregate of the code; COUNT of a star has none
abbrev pub value_argument : {C : Type 0} → AppliedAggregate C → Option (ValueArgument C)
value_argument aggregate_code.CountRows = None
value_argument (aggregate_code.Count a) = Some a
value_argument (aggregate_code.Sum a) = Some a
value_argument (aggregate_code.Min a) = Some a
value_argument (aggregate_code.Max a) = Some a

abbrev pub group_call_of : CallCode → GroupCall
group_call_of (call_code.OfRows a) = of_rows (aggregate_of expression_of a)
group_call_of (call_code.Grouping columns) = grouping columns.items

abbrev pub row_reference_of : ReferenceCode → RowReference
row_reference_of (reference_code.Column n) = column n
row_reference_of (reference_code.Group c) = of_group (group_call_of c.value)

abbrev pub row_expression_of : BoundExpressionCode ReferenceCode → RowExpression
row_expression_of f = expressions.bound_expression_of row_reference_of f
