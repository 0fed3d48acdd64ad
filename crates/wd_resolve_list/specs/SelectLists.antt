-- What the expressions of a select list read of the rows below them, and the columns of their references above a Window (SQL, query
-- specification; PG, SELECT List).
use Rattle.std.specs.Prelude.{ℕ, ◌+◌, Bool, true, false, ◌&&◌, ◌||◌, List, [], ◌∷◌, ◌++◌, map, flat_map, length, nat_eq, nat_lt, Option, Some, None, if◌then◌else◌}
use Rattle.std.specs.List.{list_any, position_or_len}
use Rattle.std.specs.declared.alloc.Global.{Global}
use Rattle.std.specs.declared.rc.Rc.{Rc}
use Rattle.wd_plan.specs.Expressions.{Expression, Column}
use Rattle.wd_plan.specs.Equality.{same_expression}
use Rattle.wd_plan.specs.Plans.{sets_of}
use Rattle.wd_resolve_operand.specs.BoundExpressions.{BoundExpression, Reference, references, rebased}
use Rattle.wd_resolve_call.specs.declared.row.GroupCall.{GroupCall as CallCode}
use Rattle.wd_resolve_call.specs.Rows.{GroupCall, of_rows, grouping, RowReference, column, of_group, RowExpression, aggregated, group_call_of, row_expression_of, same_group_call, same_row_expression}
use Rattle.wd_resolve_call.specs.Calls.{BoundFunction, ranking, away, value_at, aggregate, BoundCall, call_of, same_call}
use Rattle.wd_resolve_call.specs.References.{SelectReference, of_row, call}
use Rattle.wd_resolve_call.specs.Windows.{BoundKey}
use Rattle.wd_resolve_list.specs.declared.grouping.GroupedBy.{GroupedBy as CodeGroupedBy}
use Rattle.wd_resolve_list.specs.declared.projected.ProjectedInputs.{ProjectedInputs as CodeProjectedInputs}

-- ---- references

-- the references of expressions, from left to right
abbrev pub all_references : List (BoundExpression SelectReference) → List SelectReference
all_references [] = []
all_references (f ∷ expressions) = references f ++ all_references expressions

-- the calls among references
abbrev pub calls_among : List SelectReference → List BoundCall
calls_among [] = []
calls_among (of_row l ∷ more) = calls_among more
calls_among (call c ∷ more) = c ∷ calls_among more

-- the value argument of a function; a ranking function has none
abbrev pub argument_of : BoundFunction → List RowExpression
argument_of (ranking r) = []
argument_of (away direction a n default) = a.expression ∷ []
argument_of (value_at row a) = a.expression ∷ []
argument_of (aggregate a) = aggregated a

abbrev pub sorted_by : BoundKey → RowExpression
sorted_by key = key.expression

-- what a reference reads below a Window: a reference of rows reads itself; a call reads its value argument, then its partition, then its order
abbrev pub read_by : SelectReference → List RowExpression
read_by (of_row l) = Reference l ∷ []
read_by (call c) = argument_of c.function ++ c.window.partition ++ map sorted_by c.window.order

abbrev pub read_by_all : List SelectReference → List RowExpression
read_by_all [] = []
read_by_all (reference ∷ more) = read_by reference ++ read_by_all more

-- ---- distinct elements

-- a list, followed by the elements that it does not have, each once
abbrev pub with_new : {A : Type 0} → (A → A → Bool) → List A → List A → List A
with_new same seen [] = seen
with_new same seen (x ∷ xs) = with_new same (if list_any (same x) seen then seen else seen ++ x ∷ []) xs

-- the calls over groups among references of rows
abbrev pub group_calls_among : List RowReference → List GroupCall
group_calls_among [] = []
group_calls_among (column n ∷ more) = group_calls_among more
group_calls_among (of_group c ∷ more) = c ∷ group_calls_among more

-- the references of expressions over rows, from left to right
abbrev pub all_row_references : List RowExpression → List RowReference
all_row_references [] = []
all_row_references (f ∷ expressions) = references f ++ all_row_references expressions

-- the calls over groups that references are or read
abbrev pub group_calls_read : List SelectReference → List GroupCall
group_calls_read more = group_calls_among (all_row_references (read_by_all more))

-- what expressions need of the rows below them: the distinct window calls, the distinct expressions that the Map below a Window shows,
-- and the distinct calls over groups, in order of first use
pub record ProjectedInputs : Type 0 where
  pub calls : List BoundCall
  pub inputs : List RowExpression
  pub groups : List GroupCall

-- the projected inputs with those of further references
abbrev pub projected_with : ProjectedInputs → List SelectReference → ProjectedInputs
projected_with projected more = record { calls = with_new same_call projected.calls (calls_among more); inputs = with_new same_row_expression projected.inputs (read_by_all more); groups = with_new same_group_call projected.groups (group_calls_read more) }

-- a call over groups that several places share
abbrev pub shared_call : Rc CallCode Global → GroupCall
shared_call c = group_call_of c.value

abbrev pub projected_shown : CodeProjectedInputs → ProjectedInputs
projected_shown projected = record { calls = map call_of projected.calls.items; inputs = map row_expression_of projected.inputs.items; groups = map shared_call projected.groups.items }

-- empty projected inputs
abbrev pub no_projected : ProjectedInputs
no_projected = record { calls = []; inputs = []; groups = [] }

abbrev pub projected_of : List (BoundExpression SelectReference) → ProjectedInputs
projected_of expressions = projected_with no_projected (all_references expressions)

-- ---- groups

-- the columns that a select is grouped by, by their numbers in FROM in order of mention, and its sets of them
pub record GroupedBy : Type 0 where
  pub columns : List ℕ
  pub sets : List (List ℕ)

-- the columns and sets that a value of the code shows
abbrev pub grouped_by_of : CodeGroupedBy → GroupedBy
grouped_by_of g = record { columns = g.columns.items; sets = sets_of g.sets.items }

-- what is below the windows of a select: how it is grouped, if it is, and the condition of HAVING, if there is one
pub record Below : Type 0 where
  pub grouped : Option GroupedBy
  pub having : Option RowExpression

-- the value arguments of a call over groups
abbrev pub group_argument_of : GroupCall → List Expression
group_argument_of (of_rows a) = aggregated a
group_argument_of (grouping columns) = []

-- what the Map below a Group shows: the columns that are grouped by, followed by the arguments that are not among these
abbrev pub group_inputs : List ℕ → List GroupCall → List Expression
group_inputs columns calls = with_new same_expression (map Column columns) (flat_map group_argument_of calls)

-- ---- the columns of references

-- the number of an element in a list, and the list's length where it is not in it
abbrev pub number_in : {A : Type 0} → (A → A → Bool) → List A → A → ℕ
number_in same xs x = position_or_len (same x) xs

-- the number of an expression among the inputs
abbrev pub input_number : List RowExpression → RowExpression → ℕ
input_number inputs f = number_in same_row_expression inputs f

-- the column of FROM that a reference is; a call over groups is none
abbrev pub column_of : RowReference → ℕ
column_of (column n) = n
column_of (of_group c) = 0

-- the column of a reference of rows in FROM or in the Group; in the Group first the columns that are grouped by, then the calls
abbrev pub group_place : List ℕ → List GroupCall → RowReference → ℕ
group_place columns calls (column n) = number_in nat_eq columns n
group_place columns calls (of_group c) = length columns + number_in same_group_call calls c

abbrev pub row_place : Option GroupedBy → List GroupCall → RowReference → ℕ
row_place None calls reference = column_of reference
row_place (Some g) calls reference = group_place g.columns calls reference

-- the column of a reference above a Window: first the inputs, then the calls
abbrev pub place_above : List RowExpression → List BoundCall → SelectReference → ℕ
place_above inputs calls (of_row l) = input_number inputs (Reference l)
place_above inputs calls (call c) = length inputs + number_in same_call calls c

-- the column of a reference in the rows below what a select shows: above the Window, or, without calls, the column of a reference of rows
abbrev pub place_in : (RowReference → ℕ) → List RowExpression → List BoundCall → SelectReference → ℕ
place_in place inputs [] (of_row l) = place l
place_in place inputs [] (call c) = 0
place_in place inputs (c ∷ calls) reference = place_above inputs (c ∷ calls) reference

-- an expression over the columns below what a select shows
abbrev pub over : (RowReference → ℕ) → ProjectedInputs → BoundExpression SelectReference → Expression
over place projected f = rebased (place_in place projected.inputs projected.calls) f

-- ---- the widths of nodes

abbrev pub has_calls : List BoundCall → Bool
has_calls [] = false
has_calls (c ∷ calls) = true

-- the Window has more than 1,024 columns, where there are calls (this project's choice)
abbrev pub is_window_wide : ProjectedInputs → Bool
is_window_wide projected = has_calls projected.calls && nat_lt 1024 (length projected.inputs + length projected.calls)

-- the Group has more than 1,024 columns (this project's choice); the Map below it has at most as many, since a call has at most one
-- argument
abbrev pub is_group_wide : Option GroupedBy → List GroupCall → Bool
is_group_wide None calls = false
is_group_wide (Some g) calls = nat_lt 1024 (length g.columns + length calls)

-- some node above FROM has more than 1,024 columns: the Map of the given number of expressions, or what is below it (this project's
-- choice)
abbrev pub is_wide : ℕ → Option GroupedBy → ProjectedInputs → Bool
is_wide shown grouped projected = nat_lt 1024 shown || (is_window_wide projected || is_group_wide grouped projected.groups)

-- the calls over groups so far, followed by those of HAVING
abbrev pub having_groups : List GroupCall → Option RowExpression → List GroupCall
having_groups calls None = calls
having_groups calls (Some f) = with_new same_group_call calls (group_calls_among (references f))

-- the projected inputs with those of HAVING, which is below the windows, so only with its calls over groups
abbrev pub with_having : ProjectedInputs → Option RowExpression → ProjectedInputs
with_having projected having = record { calls = projected.calls; inputs = projected.inputs; groups = having_groups projected.groups having }

-- what a select needs: its outputs, then HAVING, then its hidden sort keys
abbrev pub all_projected : Below → (outputs hidden : List (BoundExpression SelectReference)) → ProjectedInputs
all_projected below outputs hidden = projected_with (with_having (projected_of outputs) below.having) (all_references hidden)

-- some node is too wide for these outputs and hidden sort keys
abbrev pub are_wide : Below → (outputs hidden : List (BoundExpression SelectReference)) → Bool
are_wide below outputs hidden = is_wide (length outputs + length hidden) below.grouped (all_projected below outputs hidden)
