-- When a select is grouped, and the columns that may then appear in it (SQL, table expression, group by clause; PG, SELECT: GROUP BY
-- Clause).
use Rattle.std.specs.Prelude.{ℕ, Bool, true, false, ◌||◌, List, [], ◌∷◌, Option, Some, None, is_some, Ok, Err, ⊤, if◌then◌else◌}
use Rattle.std.specs.List.{list_any}
use Rattle.wd_read_cursor.specs.declared.name.Name.{Name}
use Rattle.wd_syntax.specs.Tree.{Tree, Constant, Column, Qualified, CallAll, Call, Case, Bracket, Signed, Binary, IsNull, Negated, Trees, no_trees, more_trees, Arms, no_arms, more_arms, Otherwise, no_else, or_else, OverTree, no_over, over_name, over_window, WindowTree, window, Keys, no_keys, more_keys, ItemTree, all_columns, all_of, shown, GroupTree, Parts}
use Rattle.wd_plan.specs.declared.expression.ValueKind.{ValueKind}
use Rattle.wd_plan.specs.Plans.{has}
use Rattle.wd_resolve_operand.specs.declared.cause.Cause.{Cause}
use Rattle.wd_resolve_operand.specs.Causes.{Meant, ◌>>=◌}
use Rattle.wd_resolve_operand.specs.BoundExpressions.{Reference}
use Rattle.wd_resolve_operand.specs.Operands.{Operand, typed}
use Rattle.wd_resolve_scope.specs.declared.context.Grouped.{Grouped}
use Rattle.wd_resolve_call.specs.Functions.{group_function_named}
use Rattle.wd_resolve_call.specs.References.{SelectReference, of_row}
use Rattle.wd_resolve_call.specs.Rows.{column}

-- ---- how it is grouped

-- a call without OVER that is an aggregate or GROUPING, by its name
abbrev pub is_group_call : Name → OverTree → Bool
is_group_call f no_over = is_some (group_function_named f.text)
is_group_call f over = false

abbrev mutual
  -- an aggregate or GROUPING is in the expression
  pub has_group_call : Tree → Bool
  has_group_call (Constant x) = false
  has_group_call (Column name) = false
  has_group_call (Qualified table name) = false
  has_group_call (CallAll f over) = is_group_call f over || over_has over
  has_group_call (Call f arguments over) = is_group_call f over || (some_has arguments || over_has over)
  has_group_call (Case arms other) = arms_have arms || else_has other
  has_group_call (Bracket a) = has_group_call a
  has_group_call (Signed sign a) = has_group_call a
  has_group_call (Binary operator a b) = has_group_call a || has_group_call b
  has_group_call (IsNull a not) = has_group_call a
  has_group_call (Negated a) = has_group_call a

  pub some_has : Trees → Bool
  some_has no_trees = false
  some_has (more_trees a trees) = has_group_call a || some_has trees

  pub arms_have : Arms → Bool
  arms_have no_arms = false
  arms_have (more_arms when gives arms) = has_group_call when || (has_group_call gives || arms_have arms)

  pub else_has : Otherwise → Bool
  else_has no_else = false
  else_has (or_else a) = has_group_call a

  pub over_has : OverTree → Bool
  over_has no_over = false
  over_has (over_name name) = false
  over_has (over_window w) = window_has w

  pub window_has : WindowTree → Bool
  window_has (window base partition order frame) = some_has partition || keys_have order

  pub keys_have : Keys → Bool
  keys_have no_keys = false
  keys_have (more_keys a direction nulls keys) = has_group_call a || keys_have keys

abbrev pub item_has : ItemTree → Bool
item_has all_columns = false
item_has (all_of table) = false
item_has (shown a alias) = has_group_call a

abbrev pub is_written : List GroupTree → Bool
is_written [] = false
is_written (a ∷ items) = true

-- a select is grouped where it has GROUP BY, HAVING, or an aggregate or GROUPING in its select list, its windows (even one that no call
-- uses) or its final sort keys
abbrev pub is_grouped : Parts → Bool
is_grouped parts =
    (is_written parts.tail.grouping.items || is_some parts.tail.grouping.having)
    || (list_any item_has parts.items || (list_any (λ w. window_has w.1) parts.tail.windows || keys_have parts.tail.order))

-- ---- the columns that may appear in a grouped select

-- the columns that are grouped by, as numbers in FROM, and why no other may appear
pub record GroupedRule : Type 0 where
  pub columns : List ℕ
  pub other : Cause

abbrev pub grouped_of : Grouped → GroupedRule
grouped_of g = record { columns = g.columns.now; other = g.other }

abbrev pub column_operand : ℕ × ValueKind → Operand SelectReference
column_operand x = typed (Reference (of_row (column x.0))) x.1

-- a grouped select has to be grouped by the column
abbrev pub column_allowed : Option GroupedRule → ℕ → Meant ⊤
column_allowed None n = Ok tt
column_allowed (Some g) n = if has g.columns n then Ok tt else Err g.other

abbrev pub column_meant : Option GroupedRule → ℕ × ValueKind → Meant (Operand SelectReference)
column_meant groups x = column_allowed groups x.0 >>= λ u. Ok (column_operand x)
