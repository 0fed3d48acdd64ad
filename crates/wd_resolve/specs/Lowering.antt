-- The plan of a query: its tables, its condition, its windows, its outputs, its order and its limits, each step over the one before (SQL,
-- query specification, query expression; PG, SELECT).
use Rattle.std.specs.Prelude.{Bool, true, false, List, [], Option, Some, None, option_map, Ok}
use Rattle.wd_syntax.specs.declared.query.Quantifier.{Quantifier}
use Rattle.wd_syntax.specs.declared.query.Quantifier.TheVariants.{All, Distinct as DistinctRows}
use Rattle.wd_syntax.specs.declared.query.Limits.{Limits}
use Rattle.wd_syntax.specs.Tree as tree
use Rattle.wd_syntax.specs.Tree.{Tree, Keys, Parts, TableTree, named, derived, JoinTree, comma, cross, inner, Joins, no_joins, more_joins, SelectTree, select, QueryTree, query}
use Rattle.wd_schema.specs.Tables.{TableRule}
use Rattle.wd_plan.specs.Expressions.{Expression}
use Rattle.wd_plan.specs.Plans.{PlanTree}
use Rattle.wd_resolve_operand.specs.Causes.{Meant, ◌>>=◌}
use Rattle.wd_resolve_scope.specs.Resolving.{condition, all_defined}
use Rattle.wd_resolve_scope.specs.declared.context.Place.TheVariants as place
use Rattle.wd_resolve_scope.specs.Scopes.{ScopeRule}
use Rattle.wd_resolve_call.specs.Windows.{NamedBoundWindow}
use Rattle.wd_resolve.specs.Selected.{JoinedTables, FromSoFar, called, named_table, derived_table, joined, together, first_admitted, next_admitted}
use Rattle.wd_resolve_list.specs.Grouping.{below_meant, grouped_meant, grouped_rule}
use Rattle.wd_resolve_list.specs.SelectLists.{Below}
use Rattle.wd_resolve_list.specs.Outputs.{BoundOutput, list_meant}
use Rattle.wd_resolve_select.specs.Sorting.{Shown, unsorted, keys_sorted, row_limit_meant}
use Rattle.wd_resolve_select.specs.Steps.{Lowered, filtered, lowered_shown}

-- ---- whole selects

abbrev pub is_distinct : Option Quantifier → Bool
is_distinct None = false
is_distinct (Some All) = false
is_distinct (Some DistinctRows) = true

abbrev pub is_sorted : Keys → Bool
is_sorted tree.no_keys = false
is_sorted (tree.more_keys a direction nulls keys) = true

abbrev pub shown_by : ScopeRule → Below → Bool → List BoundOutput → Shown
shown_by scope below distinct outputs = record { scope = scope; groups = option_map grouped_rule below.grouped; below = below; distinct = distinct; outputs = outputs }

-- what a select shows, in its order and within its limits
abbrev pub shown_sorted : Shown → Keys → Option Limits → PlanTree → Meant Lowered
shown_sorted s order limits plan = do
  sorted ← keys_sorted s order unsorted
  row_limit ← row_limit_meant (is_sorted order) limits
  Ok (lowered_shown s sorted row_limit plan)

-- a select after its FROM and its WINDOW: the select list, ORDER BY and the limits, from left to right
abbrev pub selected : ScopeRule → Below → PlanTree → List NamedBoundWindow → Parts → Meant Lowered
selected scope below plan windows parts = do
  outputs ← list_meant below (record { scope = scope; groups = option_map grouped_rule below.grouped; windows = windows; place = place.SelectList }) parts.items
  shown_sorted (shown_by scope below (is_distinct parts.quantifier) outputs) parts.tail.order parts.tail.limits plan

-- a select after its FROM: WHERE, GROUP BY, HAVING, WINDOW, and the rest
abbrev pub after_from : JoinedTables → Parts → Meant Lowered
after_from from parts = do
  plan ← filtered from.scope parts.tail.filter from.plan
  grouped ← grouped_meant from.scope parts
  below ← below_meant from.scope grouped parts.tail.grouping.having
  known ← all_defined from.scope (option_map grouped_rule grouped) [] parts.tail.windows
  selected from.scope below plan known parts

-- a table after a comma begins a new sequence of joins
abbrev pub after_comma : FromSoFar → JoinedTables → Meant FromSoFar
after_comma from part = do
  p ← next_admitted from part
  Ok (record { before = Some (together from.before from.current); current = p })

-- a table joined to those since the last comma, with all pairs or on a condition
abbrev pub joined_to : FromSoFar → Option Expression → JoinedTables → FromSoFar
joined_to from condition part = record { before = from.before; current = joined condition from.current part }

abbrev pub crossed : FromSoFar → JoinedTables → Meant FromSoFar
crossed from part = do
  p ← next_admitted from part
  Ok (joined_to from None p)

-- ON sees the tables since the last comma
abbrev pub join_on : FromSoFar → Tree → JoinedTables → Meant FromSoFar
join_on from on part = do
  p ← next_admitted from part
  e ← condition place.On (joined None from.current p).scope on
  Ok (joined_to from (Some e) p)

abbrev mutual
  -- the plan of a select, and its columns
  pub lowered : List TableRule → SelectTree → Meant Lowered
  lowered tables (select parts first joins) = do
    part ← table_meant tables first
    start ← first_admitted part
    from ← joins_meant tables joins start
    after_from (together from.before from.current) parts

  -- a table of FROM: a Scan, or its own plan
  pub table_meant : List TableRule → TableTree → Meant JoinedTables
  table_meant tables (named name alias) = named_table tables name.text (called name alias)
  table_meant tables (derived s alias) = do
    l ← lowered tables s
    Ok (derived_table alias.name.text l)

  pub joins_meant : List TableRule → Joins → FromSoFar → Meant FromSoFar
  joins_meant tables no_joins from = Ok from
  joins_meant tables (more_joins join joins) from = do
    next ← join_meant tables join from
    joins_meant tables joins next

  pub join_meant : List TableRule → JoinTree → FromSoFar → Meant FromSoFar
  join_meant tables (comma table) from = table_meant tables table >>= λ part. after_comma from part
  join_meant tables (cross table) from = table_meant tables table >>= λ part. crossed from part
  join_meant tables (inner with_inner table on) from = table_meant tables table >>= λ part. join_on from on part

-- the plan of a query under a schema, and the names and kinds of its columns; or the first cause for which it has no plan
abbrev pub lowering : List TableRule → QueryTree → Meant Lowered
lowering tables (query s semicolon) = lowered tables s
