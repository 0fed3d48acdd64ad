-- The answer to a query: its plan, and the names of its outputs.
use Rattle.std.specs.Prelude.{ℕ, Bool, List, map, Ok}
use Rattle.wd_syntax.specs.Tree.{SelectTree, select, QueryTree, query}
use Rattle.wd_schema.specs.Tables.{TableRule}
use Rattle.wd_plan.specs.Plans.{PlanTree, plan_of}
use Rattle.wd_resolve_operand.specs.Causes.{Meant, ◌>>=◌}
use Rattle.wd_resolve.specs.declared.query.Resolved.{Resolved}
use Rattle.wd_resolve_list.specs.declared.output.OutputColumn.{OutputColumn}
use Rattle.wd_resolve.specs.Lowering.{is_sorted, lowering}

-- a plan, the names of its outputs, and whether the query orders its rows
pub record Answer : Type 0 where
  pub plan : PlanTree
  pub names : List (List ℕ)
  pub ordered : Bool

abbrev pub resolved_of : Resolved → Answer
resolved_of r = record { plan = plan_of r.plan; names = r.names.items; ordered = r.ordered }

abbrev pub name_in : OutputColumn → List ℕ
name_in column = column.name

-- whether a select has ORDER BY
abbrev pub has_order : SelectTree → Bool
has_order (select parts first joins) = is_sorted parts.tail.order

-- whether the outermost select of a query has ORDER BY
abbrev pub is_ordered : QueryTree → Bool
is_ordered (query s semicolon) = has_order s

-- the plan of a query under a schema, the names of its outputs, and whether it is ordered; or the first cause for which it has no plan
abbrev pub answer : List TableRule → QueryTree → Meant Answer
answer tables tree = lowering tables tree >>= λ l. Ok (record { plan = l.plan; names = map name_in l.columns; ordered = is_ordered tree })
