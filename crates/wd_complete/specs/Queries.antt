-- Queries of the plain class: FROM names one table; the select list has plain columns, `*`, and one ROW_NUMBER over a window of plain
-- columns; otherwise there is at most a WINDOW clause, and no DISTINCT. It is not grouped: it has no aggregate.
use Rattle.std.specs.Prelude.{◌≡◌, Bool, false, List, [], ◌∷◌, ◌++◌, Option, Some, None, Ok, Err, ⊤}
use Rattle.std.specs.List.{AllByRecursion}
use Rattle.wd_read_cursor.specs.declared.name.Name.{Name}
use Rattle.wd_syntax.specs.declared.query.Alias.{Alias}
use Rattle.wd_syntax.specs.declared.query.Quantifier.{Quantifier}
use Rattle.wd_syntax.specs.Tree as tree
use Rattle.wd_syntax.specs.Tree.{ItemTree, OverTree, Parts, QueryTree, WindowTree, all_columns, all_of, named, no_joins, no_keys, no_over, no_trees, over_name, over_window, query, select, shown}
use Rattle.wd_schema.specs.Tables.{TableRule}
use Rattle.wd_plan.specs.declared.function.FunctionName.TheVariants.{RowNumber}
use Rattle.wd_resolve_operand.specs.declared.cause.Cause.TheVariants.{WrongCall}
use Rattle.wd_resolve_operand.specs.Causes.{Meant}
use Rattle.wd_resolve_operand.specs.BoundExpressions.{Reference}
use Rattle.wd_resolve_call.specs.Functions.{function_named}
use Rattle.wd_resolve_scope.specs.Grouped.{is_grouped}
use Rattle.wd_resolve_scope.specs.Resolving.{ContextRule, all_defined, window_resolved}
use Rattle.wd_resolve_call.specs.Rows.{RowExpression, column}
use Rattle.wd_resolve_scope.specs.Scopes.{ScopeRule}
use Rattle.wd_resolve_call.specs.Windows.{BoundKey, NamedBoundWindow, BoundWindow, window_named}
use Rattle.wd_resolve_scope.specs.declared.context.Place.TheVariants.{SelectList}
use Rattle.wd_resolve.specs.Lowering.{is_distinct}
use Rattle.wd_resolve.specs.Selected.{JoinedTables, called, named_table}

-- a star, or a column by its name
abbrev pub IsPlainItem : ItemTree → Type 0
IsPlainItem all_columns = ⊤
IsPlainItem (all_of table) = ⊤
IsPlainItem (shown (tree.Column name) alias) = ⊤
IsPlainItem (shown (tree.Qualified table name) alias) = ⊤
IsPlainItem (shown a alias) = ⊥

abbrev pub IsColumn : RowExpression → Type 0
IsColumn (Reference (column c)) = ⊤
IsColumn f = ⊥

-- a window's partition and its order are columns
pub record IsPlainWindow (w : BoundWindow) : Type 0 where
  pub partition : AllByRecursion IsColumn w.partition
  pub order : AllByRecursion (λ (key : BoundKey). IsColumn key.expression) w.order

-- the select list of a select that is not grouped
abbrev pub in_list : ScopeRule → List NamedBoundWindow → ContextRule
in_list scope known = record { scope = scope; groups = None; windows = known; place = SelectList }

-- the window that OVER means
abbrev pub over_meant : ContextRule → OverTree → Meant BoundWindow
over_meant c no_over = Err WrongCall
over_meant c (over_name name) = window_named c.windows name.text
over_meant c (over_window w) = window_resolved c w

-- SELECT .., function() OVER .., .. [WINDOW ..], and nothing else
abbrev pub plain_parts : Option Quantifier → List (Name × WindowTree) → List ItemTree → Name → OverTree → Option Alias → List ItemTree → Parts
plain_parts quantifier windows before function over output after = record {
  quantifier = quantifier;
  items = before ++ shown (tree.Call function no_trees over) output ∷ after;
  tail = record { filter = None; grouping = record { items = []; having = None }; windows = windows; order = no_keys; limits = None };
}

pub record IsPlainQuery (tables : List TableRule) (q : QueryTree) : Type 0 where
  pub table : Name
  pub alias : Option Alias
  pub quantifier : Option Quantifier
  pub windows : List (Name × WindowTree)
  pub before : List ItemTree
  pub function : Name
  pub over : OverTree
  pub output : Option Alias
  pub after : List ItemTree
  pub semicolon : Bool
  pub is : q ≡ query (select (plain_parts quantifier windows before function over output after) (named table alias) no_joins) semicolon
  pub not_grouped : is_grouped (plain_parts quantifier windows before function over output after) ≡ false
  pub all : is_distinct quantifier ≡ false
  pub plain_before : AllByRecursion IsPlainItem before
  pub plain_after : AllByRecursion IsPlainItem after
  pub row_number : function_named function.text ≡ Some RowNumber
  -- the window that OVER means has plain columns
  pub window : (from : JoinedTables) → named_table tables table.text (called table alias) ≡ Ok from
      → (known : List NamedBoundWindow) → all_defined from.scope None [] windows ≡ Ok known
      → (w : BoundWindow) → over_meant (in_list from.scope known) over ≡ Ok w → IsPlainWindow w
