-- The select list: its outputs and their names (SQL, query specification; PG, SELECT List).
use Rattle.std.specs.Prelude.{ℕ, Bool, true, codes, List, [], ◌∷◌, ◌++◌, map, filter, Option, Some, None, Ok, Err, if◌then◌else◌}
use Rattle.std.specs.Str.{bytes_eq}
use Rattle.wd_syntax.specs.declared.expression.Sign.TheVariants.{Plus}
use Rattle.wd_syntax.specs.declared.query.Alias.{Alias}
use Rattle.wd_syntax.specs.Tree as tree
use Rattle.wd_syntax.specs.Tree.{Tree, ItemTree, all_columns, all_of, shown}
use Rattle.wd_plan.specs.declared.expression.ValueKind.{ValueKind}
use Rattle.wd_resolve_operand.specs.declared.cause.Cause.TheVariants.{UnknownTable, TooMany}
use Rattle.wd_resolve_operand.specs.Causes.{Meant, ◌>>=◌}
use Rattle.wd_resolve_operand.specs.BoundExpressions.{BoundExpression, Reference}
use Rattle.wd_resolve_operand.specs.Operands.{Operand, settled, kind_of}
use Rattle.wd_resolve_scope.specs.declared.scope.ScopeColumn.{ScopeColumn}
use Rattle.wd_resolve_scope.specs.Scopes.{ScopeRule, has_table, numbered}
use Rattle.wd_resolve_scope.specs.Grouped.{GroupedRule, column_allowed}
use Rattle.wd_resolve_call.specs.References.{SelectReference, of_row, bound_expression_of}
use Rattle.wd_resolve_scope.specs.Resolving.{ContextRule, resolved}
use Rattle.wd_resolve_call.specs.Rows.{column}
use Rattle.wd_resolve_list.specs.declared.output.Output.{Output}
use Rattle.wd_resolve_list.specs.SelectLists.{Below, are_wide}

-- an output: its name, its expression over the columns of FROM and the window calls, and the kind of its values
pub record BoundOutput : Type 0 where
  pub name : List ℕ
  pub expression : BoundExpression SelectReference
  pub kind : ValueKind

-- the output that a value of the code shows
abbrev pub output_of : Output → BoundOutput
output_of o = record { name = o.name; expression = bound_expression_of o.expression; kind = o.kind }

abbrev pub expressions_of : List BoundOutput → List (BoundExpression SelectReference)
expressions_of outputs = map (λ (output : BoundOutput). output.expression) outputs

-- ---- names

-- The name of an output without an alias: that of its column or of its function, else `?column?` (this project's choice); brackets and
-- plus signs don't count.
abbrev pub name_of : Tree → List ℕ
name_of (tree.Column name) = name.text
name_of (tree.Qualified table name) = name.text
name_of (tree.CallAll f over) = f.text
name_of (tree.Call f arguments over) = f.text
name_of (tree.Bracket a) = name_of a
name_of (tree.Signed Plus a) = name_of a
name_of a = codes "?column?"

abbrev pub name_shown : Tree → Option Alias → List ℕ
name_shown a None = name_of a
name_shown a (Some alias) = alias.name.text

-- ---- members of the list

-- a column of FROM as an output
abbrev pub column_output : ℕ × ScopeColumn → BoundOutput
column_output x = record { name = x.1.name; expression = Reference (of_row (column x.0)); kind = x.1.kind }

-- a column of the table of that name; any column where no table is named
abbrev pub is_of : Option (List ℕ) → ScopeColumn → Bool
is_of None c = true
is_of (Some table) c = bytes_eq c.table table

-- columns of FROM as outputs; a grouped select has to be grouped by each
abbrev pub columns_shown : Option GroupedRule → List (ℕ × ScopeColumn) → Meant (List BoundOutput)
columns_shown groups [] = Ok []
columns_shown groups (x ∷ xs) = column_allowed groups x.0 >>= λ u. columns_shown groups xs >>= λ outputs. Ok (column_output x ∷ outputs)

-- the columns of all tables of FROM, or of one
abbrev pub columns_of : Option GroupedRule → ScopeRule → Option (List ℕ) → Meant (List BoundOutput)
columns_of groups scope table = columns_shown groups (filter (λ x. is_of table x.1) (numbered scope.columns))

-- the columns of one table of FROM
abbrev pub table_shown : Option GroupedRule → ScopeRule → List ℕ → Meant (List BoundOutput)
table_shown groups scope table = if has_table scope table then columns_of groups scope (Some table) else Err UnknownTable

abbrev pub output_meant : List ℕ → Operand SelectReference → BoundOutput
output_meant name x = record { name = name; expression = settled x; kind = kind_of x }

-- the outputs of a member of the select list
abbrev pub item_meant : ContextRule → ItemTree → Meant (List BoundOutput)
item_meant c all_columns = columns_of c.groups c.scope None
item_meant c (all_of table) = table_shown c.groups c.scope table.text
item_meant c (shown a alias) = resolved c a >>= λ x. Ok (output_meant (name_shown a alias) x ∷ [])

-- ---- the list

-- outputs for which no node is too wide
abbrev pub narrow : Below → List BoundOutput → Meant (List BoundOutput)
narrow below outputs = if are_wide below (expressions_of outputs) [] then Err TooMany else Ok outputs

-- a further member of a select list
abbrev pub item_listed : Below → ContextRule → ItemTree → List BoundOutput → Meant (List BoundOutput)
item_listed below c item outputs = item_meant c item >>= λ more. narrow below (outputs ++ more)

-- the outputs of a select list, after the outputs before them
abbrev pub listed : Below → ContextRule → List ItemTree → List BoundOutput → Meant (List BoundOutput)
listed below c [] outputs = Ok outputs
listed below c (item ∷ items) outputs = item_listed below c item outputs >>= λ next. listed below c items next

-- the outputs of a whole select list
abbrev pub list_meant : Below → ContextRule → List ItemTree → Meant (List BoundOutput)
list_meant below c items = listed below c items []
