-- When a plan fits a schema: each table, column and class that it names exists, each operand has the type that its place asks for, and no
-- node has more than 1,024 columns (SQL, value expression, window clause, window function; PG, Window Function Calls; the limit is this
-- project's choice).
use Rattle.std.specs.Prelude.{◌≡◌, ℕ, ◌+◌, ◌-◌, Bool, true, false, not, ◌&&◌, ◌||◌, List, [], ◌∷◌, length, nat_eq, nat_lt, nat_le, slice_get, if◌then◌else◌, Option, Some, None, is_some, option_map, option_and_then}
use Rattle.std.specs.List.{list_all, list_any}
use Rattle.wd_value.specs.declared.value.Value.{Value}
use Rattle.wd_value.specs.declared.value.Value.TheVariants.{Null, Int, Text as TextValue, Bool as TruthValue}
use Rattle.wd_value.specs.declared.value.ColumnType.{ColumnType}
use Rattle.wd_value.specs.declared.value.ColumnType.TheVariants as type
use Rattle.wd_schema.specs.declared.table.Column.{Column as TableColumn}
use Rattle.wd_schema.specs.Tables.{TableRule}
use Rattle.wd_plan.specs.declared.expression.ValueKind.{ValueKind}
use Rattle.wd_plan.specs.declared.expression.ValueKind.TheVariants.{Number, Text, Truth}
use Rattle.wd_plan.specs.declared.function.Argument.{Argument}
use Rattle.wd_plan.specs.declared.function.Argument.TheVariants as asks
use Rattle.wd_plan.specs.declared.function.FrameFunction.{FrameFunction}
use Rattle.wd_plan.specs.declared.function.FrameFunction.TheVariants.{ValueAt, Aggregate}
use Rattle.wd_plan.specs.declared.function.FrameRow.{FrameRow}
use Rattle.wd_plan.specs.declared.function.FrameRow.TheVariants.{First, Last, Nth}
use Rattle.wd_plan.specs.declared.function.Function.{Function}
use Rattle.wd_plan.specs.declared.function.Function.TheVariants.{Ranking as Ranked, Shift as Shifted, OfFrame}
use Rattle.wd_plan.specs.declared.function.Ranking.{Ranking}
use Rattle.wd_plan.specs.declared.function.Ranking.TheVariants.{RowNumber, Rank, DenseRank, Ntile}
use Rattle.wd_plan.specs.declared.function.ResultKind.{ResultKind}
use Rattle.wd_plan.specs.declared.function.ResultKind.TheVariants.{Number as Numbers, OfArgument}
use Rattle.wd_value.specs.Bags.{positions}
use Rattle.wd_value.specs.declared.order.SortColumn.{SortColumn}
use Rattle.wd_plan.specs.declared.window.Bound.{Bound}
use Rattle.wd_plan.specs.declared.window.Bound.TheVariants.{UnboundedPreceding, Preceding, CurrentRow, Following, UnboundedFollowing}
use Rattle.wd_plan.specs.declared.window.Call.{Call}
use Rattle.wd_plan.specs.declared.window.Frame.{Frame}
use Rattle.wd_plan.specs.declared.window.FrameMode.{FrameMode}
use Rattle.wd_plan.specs.declared.window.FrameMode.TheVariants as mode
use Rattle.wd_plan.specs.Expressions.{Expression, Column, Literal, Negate, Arithmetic, Compare, Not, And, Or, IsNull, IsNotNull, Case}
use Rattle.wd_plan.specs.Functions.{argument_of, name_of, signature}
use Rattle.wd_plan.specs.Plans.{ClassRule, GroupCall, OfRows, Grouping, GroupRule, LimitRule, WindowRule, Step, Filter, Map, Group, Window, Distinct, Limit, PlanTree, Scan, Join, Over, has}

-- ---- kinds of values

-- the kinds of the columns of a row, by their numbers; none past the last column
abbrev pub Kinds : Type 0
Kinds = ℕ → Option ValueKind

-- whole numbers of all widths are one kind
abbrev pub kind_of_type : ColumnType → ValueKind
kind_of_type type.SmallInt = Number
kind_of_type type.Integer = Number
kind_of_type type.BigInt = Number
kind_of_type type.Text = Text
kind_of_type type.Boolean = Truth

-- NULL is of each kind
abbrev pub is_of_kind : ValueKind → Value → Bool
is_of_kind kind Null = true
is_of_kind Number (Int n) = true
is_of_kind Text (TextValue bytes) = true
is_of_kind Truth (TruthValue b) = true
is_of_kind kind v = false

abbrev pub same_kind : ValueKind → ValueKind → Bool
same_kind Number Number = true
same_kind Text Text = true
same_kind Truth Truth = true
same_kind a b = false

-- the kind is known, and it is this one
abbrev pub is_kind : ValueKind → Option ValueKind → Bool
is_kind kind None = false
is_kind kind (Some other) = same_kind kind other

-- both kinds are known, and they are equal
abbrev pub are_alike : Option ValueKind → Option ValueKind → Bool
are_alike None other = false
are_alike (Some kind) other = is_kind kind other

-- ---- expressions

-- the kind of an expression's values: a CASE has that of its results
abbrev pub kind_of : Kinds → Expression → Option ValueKind
kind_of kinds (Column c) = kinds c
kind_of kinds (Literal v kind) = Some kind
kind_of kinds (Negate a) = Some Number
kind_of kinds (Arithmetic op a b) = Some Number
kind_of kinds (Compare op a b) = Some Truth
kind_of kinds (Not a) = Some Truth
kind_of kinds (And a b) = Some Truth
kind_of kinds (Or a b) = Some Truth
kind_of kinds (IsNull a) = Some Truth
kind_of kinds (IsNotNull a) = Some Truth
kind_of kinds (Case branch a b c) = kind_of kinds b

-- each operand is of the kind that its place asks for: arithmetic takes whole numbers, NOT, AND, OR and the condition of a
-- CASE truth values, a comparison two sides of one kind, and a CASE two results of one kind
abbrev pub is_typed : Kinds → Expression → Bool
is_typed kinds (Column c) = is_some (kinds c)
is_typed kinds (Literal v kind) = is_of_kind kind v
is_typed kinds (Negate a) = is_typed kinds a && is_kind Number (kind_of kinds a)
is_typed kinds (Arithmetic op a b) = (is_typed kinds a && is_kind Number (kind_of kinds a)) && (is_typed kinds b && is_kind Number (kind_of kinds b))
is_typed kinds (Compare op a b) = (is_typed kinds a && is_typed kinds b) && are_alike (kind_of kinds a) (kind_of kinds b)
is_typed kinds (Not a) = is_typed kinds a && is_kind Truth (kind_of kinds a)
is_typed kinds (And a b) = (is_typed kinds a && is_kind Truth (kind_of kinds a)) && (is_typed kinds b && is_kind Truth (kind_of kinds b))
is_typed kinds (Or a b) = (is_typed kinds a && is_kind Truth (kind_of kinds a)) && (is_typed kinds b && is_kind Truth (kind_of kinds b))
is_typed kinds (IsNull a) = is_typed kinds a
is_typed kinds (IsNotNull a) = is_typed kinds a
is_typed kinds (Case branch a b c) = (is_typed kinds a && is_kind Truth (kind_of kinds a)) && ((is_typed kinds b && is_typed kinds c) && are_alike (kind_of kinds b) (kind_of kinds c))

-- a condition is a truth value
abbrev pub is_condition : Kinds → Expression → Bool
is_condition kinds e = is_typed kinds e && is_kind Truth (kind_of kinds e)

-- no condition, or one that is a truth value
abbrev pub may_join : Kinds → Option Expression → Bool
may_join kinds None = true
may_join kinds (Some e) = is_condition kinds e

-- ---- window calls

-- the kind of a column, where one is named
abbrev pub kind_at : Kinds → Option ℕ → Option ValueKind
kind_at kinds None = None
kind_at kinds (Some c) = kinds c

-- the kind of a function's values, over the kind of its argument
abbrev pub result_kind : ResultKind → Option ValueKind → Option ValueKind
result_kind Numbers kind = Some Number
result_kind OfArgument kind = kind

abbrev pub kind_of_function : Kinds → Function → Option ValueKind
kind_of_function kinds f = result_kind (signature (name_of f)).result (kind_at kinds (argument_of f))

abbrev pub kind_of_call : Kinds → Call → Option ValueKind
kind_of_call kinds call = kind_of_function kinds call.function

-- MIN and MAX are of whole numbers and of texts
abbrev pub has_extremes : Option ValueKind → Bool
has_extremes kind = is_kind Number kind || is_kind Text kind

-- whether the argument's kind is as a signature requires
abbrev pub is_argument : Argument → Option ValueKind → Bool
is_argument asks.Nothing kind = true
is_argument asks.Any kind = is_some kind
is_argument asks.Number kind = is_kind Number kind
is_argument asks.Ordered kind = has_extremes kind

-- the argument is present and as the signature asks; COUNT(*) and the functions of a row's place have none
abbrev pub has_argument : Kinds → Argument → Option ℕ → Bool
has_argument kinds asked None = true
has_argument kinds asked (Some c) = is_argument asked (kinds c)

-- a default has the kind of the argument
abbrev pub is_default : Option ValueKind → Value → Bool
is_default None v = false
is_default (Some kind) v = is_of_kind kind v

-- numbers of buckets and of rows are at least 1
abbrev pub is_ranking : Ranking → Bool
is_ranking RowNumber = true
is_ranking Rank = true
is_ranking DenseRank = true
is_ranking (Ntile n) = nat_le 1 n

abbrev pub is_frame_row : FrameRow → Bool
is_frame_row First = true
is_frame_row Last = true
is_frame_row (Nth n) = nat_le 1 n

abbrev pub is_frame_function : FrameFunction → Bool
is_frame_function (ValueAt row c) = is_frame_row row
is_frame_function (Aggregate a) = true

-- the literals among a call's arguments
abbrev pub has_literals : Kinds → Function → Bool
has_literals kinds (Ranked r) = is_ranking r
has_literals kinds (Shifted s) = is_default (kinds s.argument) s.default
has_literals kinds (OfFrame f) = is_frame_function f

-- the arguments of a call
abbrev pub takes : Kinds → Function → Bool
takes kinds f = has_argument kinds (signature (name_of f)).argument (argument_of f) && has_literals kinds f

-- the rank of a bound in the order in which bounds may follow one another
abbrev pub bound_place : Bound → ℕ
bound_place UnboundedPreceding = 0
bound_place (Preceding n) = 1
bound_place CurrentRow = 2
bound_place (Following n) = 3
bound_place UnboundedFollowing = 4

-- a start is never UNBOUNDED FOLLOWING, an end never UNBOUNDED PRECEDING, and the end's kind does not come before the start's
abbrev pub are_bounds : Bound → Bound → Bool
are_bounds start end = nat_lt (bound_place start) 4 && (nat_lt 0 (bound_place end) && nat_le (bound_place start) (bound_place end))

abbrev pub has_offset : Bound → Bool
has_offset UnboundedPreceding = false
has_offset (Preceding n) = true
has_offset CurrentRow = false
has_offset (Following n) = true
has_offset UnboundedFollowing = false

-- exactly one sort key, of whole numbers
abbrev pub is_one_number : Kinds → List SortColumn → Bool
is_one_number kinds [] = false
is_one_number kinds (item ∷ []) = is_kind Number (kinds item.column)
is_one_number kinds (item ∷ other ∷ items) = false

-- GROUPS needs sort keys, and an offset in RANGE exactly one, of whole numbers
abbrev pub has_keys_for : Kinds → List SortColumn → Frame → Bool
has_keys_for kinds keys frame = by_mode frame.mode
  where
    by_mode : FrameMode → Bool
    by_mode mode.Rows = true
    by_mode mode.Range = not (has_offset frame.start || has_offset frame.end) || is_one_number kinds keys
    by_mode mode.Groups = nat_lt 0 (length keys)

abbrev pub has_columns : Kinds → List ℕ → Bool
has_columns kinds columns = list_all (λ c. is_some (kinds c)) columns

abbrev pub has_keys : Kinds → List SortColumn → Bool
has_keys kinds keys = list_all (λ (item : SortColumn). is_some (kinds item.column)) keys

abbrev pub has_class : Kinds → ClassRule → Bool
has_class kinds class = has_columns kinds class.partition && has_keys kinds class.order

-- a call of a class: the frame is allowed with the sort keys, even where the function ignores the frame
abbrev pub is_call : Kinds → List ClassRule → Call → Bool
is_call kinds classes call = of_class (slice_get classes call.class)
  where
    of_class : Option ClassRule → Bool
    of_class None = false
    of_class (Some class) = takes kinds call.function && (are_bounds call.frame.start call.frame.end && has_keys_for kinds class.order call.frame)

-- ---- groups

-- each set names grouping columns, and each of these is in some set
abbrev pub are_sets : ℕ → List (List ℕ) → Bool
are_sets columns sets = list_all (list_all (λ c. nat_lt c columns)) sets && list_all (λ c. list_any (λ set. has set c) sets) (positions columns)

abbrev pub kind_of_group_call : Kinds → GroupCall → Option ValueKind
kind_of_group_call kinds (OfRows a) = kind_of_function kinds (OfFrame (Aggregate a))
kind_of_group_call kinds (Grouping arguments) = Some Number

-- an aggregate with its argument, or GROUPING of 1 to 31 grouping columns
abbrev pub is_group_call : Kinds → ℕ → GroupCall → Bool
is_group_call kinds columns (OfRows a) = takes kinds (OfFrame (Aggregate a))
is_group_call kinds columns (Grouping arguments) = (nat_lt 0 (length arguments) && nat_le (length arguments) 31) && list_all (λ c. nat_lt c columns) arguments

-- ---- nodes

-- each column is below the number of columns of a node
abbrev pub AreBelow : ℕ → List ℕ → Type 0
AreBelow columns X = list_all (λ c. nat_lt c columns) X ≡ true

-- the number of columns of a step's rows, over an input with so many
abbrev pub step_width : Step → ℕ → ℕ
step_width (Map outputs) columns = length outputs
step_width (Group g) columns = g.columns + length g.calls
step_width (Window w) columns = columns + length w.calls
step_width step columns = columns

-- the number of columns of a plan's rows
abbrev pub width : PlanTree → ℕ
width (Scan table columns) = columns
width (Join condition left right) = width left + width right
width (Over step input) = step_width step (width input)

-- the kind of a table's column, both by number
abbrev pub table_kind : List TableRule → ℕ → Kinds
table_kind tables table c = option_and_then (λ (t : TableRule). option_map (λ (column : TableColumn). kind_of_type column.kind) (slice_get t.columns c)) (slice_get tables table)

-- the kinds of the columns of a step's rows, over an input with so many columns of these kinds: the outputs'; the grouping columns'
-- or the input's, then the calls'
abbrev pub step_kinds : Step → ℕ → Kinds → Kinds
step_kinds (Map outputs) columns kinds c = option_and_then (kind_of kinds) (slice_get outputs c)
step_kinds (Group g) columns kinds c = if nat_lt c g.columns then kinds c else option_and_then (kind_of_group_call kinds) (slice_get g.calls (c - g.columns))
step_kinds (Window w) columns kinds c = if nat_lt c columns then kinds c else option_and_then (kind_of_call kinds) (slice_get w.calls (c - columns))
step_kinds step columns kinds c = kinds c

-- the kinds of the columns of a plan's rows: of a table's columns; left, then right; the step's
abbrev pub kinds_of : List TableRule → PlanTree → Kinds
kinds_of tables (Scan table columns) c = table_kind tables table c
kinds_of tables (Join condition left right) c = if nat_lt c (width left) then kinds_of tables left c else kinds_of tables right (c - width left)
kinds_of tables (Over step input) c = step_kinds step (width input) (kinds_of tables input) c

-- the table of this number has the given number of columns
abbrev pub has_table : List TableRule → ℕ → ℕ → Bool
has_table tables table columns = of_table (slice_get tables table)
  where
    of_table : Option TableRule → Bool
    of_table None = false
    of_table (Some t) = nat_eq columns (length t.columns)

-- a node has at most 1,024 columns (this project's choice)
abbrev pub is_narrow : ℕ → Bool
is_narrow columns = nat_le columns 1024

-- the condition of a Join, over the number and the kinds of the columns of both sides
abbrev pub is_join : Kinds → ℕ → Option Expression → Bool
is_join kinds columns condition = is_narrow columns && may_join kinds condition

-- the outputs of a Map, over the kinds of its input's columns
abbrev pub are_outputs : Kinds → List Expression → Bool
are_outputs kinds outputs = is_narrow (length outputs) && list_all (is_typed kinds) outputs

-- the classes and calls of a Window, over the number and the kinds of its input's columns
abbrev pub is_window : Kinds → ℕ → WindowRule → Bool
is_window kinds columns w = is_narrow (columns + length w.calls) && (list_all (has_class kinds) w.classes && list_all (is_call kinds w.classes) w.calls)

-- the sets and calls of a Group, over the number and the kinds of its input's columns
abbrev pub is_group : Kinds → ℕ → GroupRule → Bool
is_group kinds columns g = is_narrow (g.columns + length g.calls) && (nat_le g.columns columns && (are_sets g.columns g.sets && list_all (is_group_call kinds g.columns) g.calls))

-- the sort keys of a Limit; WITH TIES needs some
abbrev pub is_limit : Kinds → LimitRule → Bool
is_limit kinds limit = has_keys kinds limit.keys && (not limit.ties || nat_lt 0 (length limit.keys))

-- a step is as the rules ask, over the number and the kinds of its input's columns
abbrev pub is_step : Kinds → ℕ → Step → Bool
is_step kinds columns (Filter condition) = is_condition kinds condition
is_step kinds columns (Map outputs) = are_outputs kinds outputs
is_step kinds columns (Group g) = is_group kinds columns g
is_step kinds columns (Window w) = is_window kinds columns w
is_step kinds columns Distinct = true
is_step kinds columns (Limit limit) = is_limit kinds limit

-- a plan fits the tables of a schema: each node is as the rules ask, over the columns that it reads
abbrev pub fits : List TableRule → PlanTree → Bool
fits tables (Scan table columns) = is_narrow columns && has_table tables table columns
fits tables (Join condition left right) = (fits tables left && fits tables right) && is_join (kinds_of tables (Join condition left right)) (width left + width right) condition
fits tables (Over step input) = fits tables input && is_step (kinds_of tables input) (width input) step
