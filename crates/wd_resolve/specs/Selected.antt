-- The tables of FROM, and what the query around a select sees of it.
use Rattle.std.specs.Prelude.{ℕ, ◌||◌, List, [], ◌∷◌, map, length, nat_lt, position, Bool, false, Option, Some, None, option_map, Ok, Err, slice_get, if◌then◌else◌}
use Rattle.std.specs.List.{list_any}
use Rattle.std.specs.Option.{option_map_or}
use Rattle.std.specs.Str.{bytes_eq}
use Rattle.wd_read_cursor.specs.declared.name.Name.{Name}
use Rattle.wd_syntax.specs.declared.query.Alias.{Alias}
use Rattle.wd_schema.specs.declared.table.Column.{Column as TableColumn}
use Rattle.wd_schema.specs.Tables.{TableRule}
use Rattle.wd_plan.specs.Expressions.{Expression}
use Rattle.wd_plan.specs.Fits.{kind_of_type}
use Rattle.wd_plan.specs.Plans.{PlanTree, Scan, Join, plan_of}
use Rattle.wd_resolve_operand.specs.declared.cause.Cause.TheVariants.{UnknownTable, Ambiguous, TooMany}
use Rattle.wd_resolve_scope.specs.declared.scope.ScopeColumn.{ScopeColumn}
use Rattle.wd_resolve_operand.specs.Causes.{Meant, ◌>>=◌}
use Rattle.wd_resolve_scope.specs.Scopes.{ScopeRule, scope_of, beside, has_table}
use Rattle.wd_resolve_select.specs.Steps.{Lowered}
use Rattle.wd_resolve_list.specs.declared.output.OutputColumn.{OutputColumn}
use Rattle.wd_resolve.specs.declared.part.JoinedTables.{JoinedTables as CodeJoined}
use Rattle.wd_resolve.specs.declared.part.FromSoFar.{FromSoFar as CodeFrom}
use Rattle.wd_resolve.specs.declared.part.LoweredSelect.{LoweredSelect}

-- tables joined to one another: their columns, and the plan that has these columns
pub record JoinedTables : Type 0 where
  pub scope : ScopeRule
  pub plan : PlanTree

-- what the parts of the code show
abbrev pub lowered_of : LoweredSelect → Lowered
lowered_of l = record { plan = plan_of l.plan; columns = l.columns.items }

abbrev pub joined_of : CodeJoined → JoinedTables
joined_of part = record { scope = scope_of part.scope; plan = plan_of part.plan }

-- ---- one table

-- a column of a table of the schema, as a column in scope
abbrev pub table_column : List ℕ → TableColumn → ScopeColumn
table_column table column = record { table = table; name = column.name; kind = kind_of_type column.kind }

-- an output of a derived table as a column in scope
abbrev pub derived_column : List ℕ → OutputColumn → ScopeColumn
derived_column table column = record { table = table; name = column.name; kind = column.kind }

-- a table's name in FROM: its alias, or else its own name
abbrev pub called : Name → Option Alias → List ℕ
called name None = name.text
called name (Some alias) = alias.name.text

-- a table of the schema is a Scan
abbrev pub scan : List ℕ → ℕ → Option TableRule → Meant JoinedTables
scan name number None = Err UnknownTable
scan name number (Some table) = Ok (record { scope = record { tables = name ∷ []; columns = map (table_column name) table.columns }; plan = Scan number (length table.columns) })

-- the table of that number
abbrev pub scan_at : List TableRule → List ℕ → Option ℕ → Meant JoinedTables
scan_at tables name None = Err UnknownTable
scan_at tables name (Some number) = scan name number (slice_get tables number)

abbrev pub has_name : List ℕ → TableRule → Bool
has_name name rule = bytes_eq rule.name name

-- the table of that number has the name
abbrev pub is_named : List TableRule → List ℕ → ℕ → Bool
is_named tables name number = option_map_or (has_name name) (slice_get tables number) false

-- the number of the first table of that name
abbrev pub table_number : List TableRule → List ℕ → Option ℕ
table_number tables name = position (has_name name) tables

-- the schema's table of a name, under another name in FROM
abbrev pub named_table : List TableRule → List ℕ → List ℕ → Meant JoinedTables
named_table tables table name = scan_at tables name (table_number tables table)

-- the plan of a derived table is that of its select
abbrev pub derived_table : List ℕ → Lowered → JoinedTables
derived_table name lowered = record { scope = record { tables = name ∷ []; columns = map (derived_column name) lowered.columns }; plan = lowered.plan }

-- ---- the tables of FROM, from left to right

-- the tables before the last comma, and those that are joined after it
pub record FromSoFar : Type 0 where
  pub before : Option JoinedTables
  pub current : JoinedTables

abbrev pub from_of : CodeFrom → FromSoFar
from_of from = record { before = option_map joined_of from.before; current = joined_of from.current }

-- two parts, the left one first, with the condition that joins them
abbrev pub joined : Option Expression → JoinedTables → JoinedTables → JoinedTables
joined condition left right = record { scope = beside left.scope right.scope; plan = Join condition left.plan right.plan }

-- the parts between commas, joined from the left without a condition
abbrev pub together : Option JoinedTables → JoinedTables → JoinedTables
together None current = current
together (Some before) current = joined None before current

-- the tables and columns of FROM so far
abbrev pub scope_so_far : FromSoFar → ScopeRule
scope_so_far from = (together from.before from.current).scope

-- a FROM has at most 8 tables and 1,024 columns (this project's choice)
abbrev pub are_too_many : ℕ → ℕ → Bool
are_too_many tables columns = nat_lt 8 tables || nat_lt 1024 columns

abbrev pub is_too_large : ScopeRule → Bool
is_too_large scope = are_too_many (length scope.tables) (length scope.columns)

-- a further table, whose name no other table of this FROM has
abbrev pub admitted : ScopeRule → JoinedTables → Meant JoinedTables
admitted scope part = if list_any (has_table scope) part.scope.tables then Err Ambiguous else (if is_too_large (beside scope part.scope) then Err TooMany else Ok part)

-- the first table
abbrev pub first_admitted : JoinedTables → Meant FromSoFar
first_admitted part = admitted (record { tables = []; columns = [] }) part >>= λ p. Ok (record { before = None; current = p })

-- a further table after those before it
abbrev pub next_admitted : FromSoFar → JoinedTables → Meant JoinedTables
next_admitted from part = admitted (scope_so_far from) part
