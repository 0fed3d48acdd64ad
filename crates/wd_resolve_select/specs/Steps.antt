-- The steps of a plan above FROM: the windows of a select list, and what is shown, sorted and cut off (SQL, query specification, query
-- expression; PG, SELECT).
use Rattle.std.specs.Prelude.{ℕ, Bool, true, false, ◌&&◌, List, [], ◌∷◌, ◌++◌, map, length, nat_eq, Option, Some, None, Ok, if◌then◌else◌}
use Rattle.std.specs.List.{position_or_len, range_with_len}
use Rattle.std.specs.Bool.{beq}
use lib.Pointwise.{pointwise}
use Rattle.wd_syntax.specs.Tree.{Tree}
use Rattle.wd_value.specs.declared.order.SortColumn.{SortColumn}
use Rattle.wd_plan.specs.declared.window.Call.{Call}
use Rattle.wd_plan.specs.declared.function.Aggregate.{Aggregate}
use Rattle.wd_plan.specs.declared.function.Aggregate.TheVariants as rows
use Rattle.wd_plan.specs.declared.function.FrameFunction.TheVariants as of_frame
use Rattle.wd_plan.specs.declared.function.Function.{Function}
use Rattle.wd_plan.specs.declared.function.Function.TheVariants.{Ranking as Ranked, Shift as Shifted, OfFrame}
use Rattle.wd_plan.specs.Expressions.{Expression, Column}
use Rattle.wd_plan.specs.Equality.{same_expression}
use Rattle.wd_plan.specs.Plans.{ClassRule, GroupCall as GroupCallRule, OfRows, Grouping, GroupRule, WindowRule, PlanTree, Over, Filter, Map, Group, Window, Distinct, Limit}
use Rattle.wd_resolve_operand.specs.Causes.{Meant, ◌>>=◌}
use Rattle.wd_resolve_operand.specs.BoundExpressions.{BoundExpression, rebased}
use Rattle.wd_resolve_call.specs.Rows.{BoundAggregate, count_rows, count_of, sum_of, least_of, greatest_of, GroupCall, of_rows, grouping, RowReference, RowExpression}
use Rattle.wd_resolve_call.specs.Calls.{BoundFunction, ranking, away, value_at, aggregate, BoundCall}
use Rattle.wd_resolve_call.specs.References.{SelectReference}
use Rattle.wd_resolve_scope.specs.Resolving.{condition}
use Rattle.wd_resolve_scope.specs.declared.context.Place.TheVariants as place
use Rattle.wd_resolve_scope.specs.Scopes.{ScopeRule}
use Rattle.wd_resolve_call.specs.Windows.{BoundKey}
use Rattle.wd_resolve_list.specs.declared.output.OutputColumn.{OutputColumn}
use Rattle.wd_resolve_list.specs.Grouping.{set_rebased}
use Rattle.wd_resolve_list.specs.SelectLists.{Below, GroupedBy, ProjectedInputs, all_projected, group_inputs, group_place, input_number, number_in, over, row_place, with_new}
use Rattle.wd_resolve_list.specs.Outputs.{BoundOutput, expressions_of}
use Rattle.wd_resolve_select.specs.Sorting.{Shown, Sorted, RowLimit}

-- ---- the windows of a select list

-- the aggregate of a plan, over the column of its argument
abbrev pub aggregate_over : {E : Type 0} → (E → ℕ) → BoundAggregate E → Aggregate
aggregate_over at count_rows = rows.CountRows
aggregate_over at (count_of a) = rows.Count (at a.expression)
aggregate_over at (sum_of a) = rows.Sum (at a.expression)
aggregate_over at (least_of a) = rows.Min (at a.expression)
aggregate_over at (greatest_of a) = rows.Max (at a.expression)

-- the function of a plan, over the column of its argument
abbrev pub function_over : List RowExpression → BoundFunction → Function
function_over inputs (ranking r) = Ranked r
function_over inputs (away direction a n default) = Shifted (record { direction = direction; argument = input_number inputs a.expression; offset = n; default = default })
function_over inputs (value_at row a) = OfFrame (of_frame.ValueAt row (input_number inputs a.expression))
function_over inputs (aggregate a) = OfFrame (of_frame.Aggregate (aggregate_over (input_number inputs) a))

-- the column of a sort key among the inputs
abbrev pub order_item : List RowExpression → BoundKey → SortColumn
order_item inputs key = record { column = input_number inputs key.expression; key = key.key }

-- the class of a call: its partition and its sort keys, over the inputs
abbrev pub class_over : List RowExpression → BoundCall → ClassRule
class_over inputs call = record { partition = map (input_number inputs) call.window.partition; order = map (order_item inputs) call.window.order }

abbrev pub same_item : SortColumn → SortColumn → Bool
same_item a b = nat_eq a.column b.column && (beq a.key.desc b.key.desc && beq a.key.nulls_first b.key.nulls_first)

-- classes are equal where their lists are equal
abbrev pub same_class : ClassRule → ClassRule → Bool
same_class a b = pointwise same_item a.order b.order && pointwise nat_eq a.partition b.partition

-- the classes of calls, in the order of their first calls
abbrev pub classes_over : List RowExpression → List BoundCall → List ClassRule
classes_over inputs calls = with_new same_class [] (map (class_over inputs) calls)

abbrev pub call_over : List RowExpression → List ClassRule → BoundCall → Call
call_over inputs classes call = record {
  class = position_or_len (same_class (class_over inputs call)) classes;
  function = function_over inputs call.function;
  frame = call.window.frame;
}

-- what a Window computes over the inputs
abbrev pub window_over : List RowExpression → List BoundCall → WindowRule
window_over inputs calls = record { classes = classes_over inputs calls; calls = map (call_over inputs (classes_over inputs calls)) calls }

-- ---- the steps

-- a Filter for WHERE
abbrev pub filtered : ScopeRule → Option Tree → PlanTree → Meant PlanTree
filtered scope None plan = Ok plan
filtered scope (Some a) plan = condition place.Where scope a >>= λ e. Ok (Over (Filter e) plan)

-- a call over groups, over the columns that are grouped by, followed by the arguments
abbrev pub group_call_over : List ℕ → List Expression → GroupCall → GroupCallRule
group_call_over columns inputs (of_rows a) = OfRows (aggregate_over (number_in same_expression inputs) a)
group_call_over columns inputs (grouping cs) = Grouping (map (number_in nat_eq columns) cs)

-- what a Group shows over a Map of the columns that are grouped by and the arguments
abbrev pub group_over : GroupedBy → List GroupCall → GroupRule
group_over g calls = record { columns = length g.columns; sets = map (set_rebased g.columns) g.sets; calls = map (group_call_over g.columns (group_inputs g.columns calls)) calls }

-- a Group over its Map
abbrev pub group_on : GroupedBy → List GroupCall → PlanTree → PlanTree
group_on g calls plan = Over (Group (group_over g calls)) (Over (Map (group_inputs g.columns calls)) plan)

-- a Filter over the Group for HAVING
abbrev pub having_on : (RowReference → ℕ) → Option RowExpression → PlanTree → PlanTree
having_on place None plan = plan
having_on place (Some condition) plan = Over (Filter (rebased place condition)) plan

-- the rows that windows are over: those of FROM and WHERE, or their groups
abbrev pub grouped_on : Below → List GroupCall → PlanTree → PlanTree
grouped_on below calls plan = by below.grouped
  where
    by : Option GroupedBy → PlanTree
    by None = plan
    by (Some g) = having_on (group_place g.columns calls) below.having (group_on g calls plan)

-- a Window over a Map of the distinct expressions that are read
abbrev pub window_on : (RowReference → ℕ) → List RowExpression → List BoundCall → PlanTree → PlanTree
window_on place inputs calls plan = Over (Window (window_over inputs calls)) (Over (Map (map (rebased place) inputs)) plan)

-- a Window, if there are window calls
abbrev pub windowed : (RowReference → ℕ) → List RowExpression → List BoundCall → PlanTree → PlanTree
windowed place inputs [] plan = plan
windowed place inputs (call ∷ calls) plan = window_on place inputs (call ∷ calls) plan

-- a Map of the expressions, over the Window if there is one
abbrev pub mapped_over : (RowReference → ℕ) → ProjectedInputs → List (BoundExpression SelectReference) → PlanTree → PlanTree
mapped_over place projected expressions plan = Over (Map (map (over place projected) expressions)) (windowed place projected.inputs projected.calls plan)

-- a Map of outputs and hidden sort keys, over what is below it
abbrev pub mapped : Below → (outputs hidden : List (BoundExpression SelectReference)) → PlanTree → PlanTree
mapped below outputs hidden plan =
    let projected = all_projected below outputs hidden in
    mapped_over (row_place below.grouped projected.groups) projected (outputs ++ hidden) (grouped_on below projected.groups plan)

-- a Distinct for DISTINCT
abbrev pub deduplicated : Bool → PlanTree → PlanTree
deduplicated false plan = plan
deduplicated true plan = Over Distinct plan

-- a Limit for ORDER BY, OFFSET or a count
abbrev pub limited : List SortColumn → Option RowLimit → PlanTree → PlanTree
limited [] None plan = plan
limited (item ∷ items) None plan = Over (Limit (record { keys = item ∷ items; offset = 0; count = None; ties = false })) plan
limited items (Some row_limit) plan = Over (Limit (record { keys = items; offset = row_limit.offset; count = row_limit.count; ties = row_limit.ties })) plan

-- the given number of columns from a number on
abbrev pub columns_from : ℕ → ℕ → List Expression
columns_from first count = map Column (range_with_len first count)

-- a Map that drops hidden sort keys after the outputs, if there are any
abbrev pub without_hidden : ℕ → ℕ → PlanTree → PlanTree
without_hidden outputs hidden plan = if nat_eq hidden 0 then plan else Over (Map (columns_from 0 outputs)) plan

abbrev pub column_shown : BoundOutput → OutputColumn
column_shown output = record { name = output.name; kind = output.kind }

-- a plan, and the names and kinds of its columns
pub record Lowered : Type 0 where
  pub plan : PlanTree
  pub columns : List OutputColumn

-- the plan of what a select shows, sorts by and cuts off, and its columns
abbrev pub lowered_shown : Shown → Sorted → Option RowLimit → PlanTree → Lowered
lowered_shown s sorted row_limit plan = record {
  plan =
      without_hidden (length s.outputs) (length sorted.hidden)
      (limited sorted.items row_limit
      (deduplicated s.distinct
      (mapped s.below (expressions_of s.outputs) sorted.hidden plan)));
  columns = map column_shown s.outputs;
}
