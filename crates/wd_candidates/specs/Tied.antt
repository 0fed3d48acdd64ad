-- The columns by which a call or a limit orders rows, and the table columns from which these are computed.
use Rattle.std.specs.Prelude.{ℕ, ◌+◌, ◌-◌, Bool, List, nat_eq, nat_lt, slice_get, if◌then◌else◌, Option, Some, None, option_map, option_and_then}
use Rattle.wd_value.specs.Keys.{key_columns}
use Rattle.wd_plan.specs.declared.window.Call.{Call}
use Rattle.wd_plan.specs.Outcomes.{class_at}
use Rattle.wd_plan.specs.Plans.{LimitRule, WindowRule, PlanTree, Scan, Join, Over, Window, Limit, node_count, has}
use Rattle.wd_plan.specs.Sorting.{class_columns}
use Rattle.wd_candidates.specs.Origins.{is_source}

-- some columns of a node
pub record NodeColumns : Type 0 where
  pub node : PlanTree
  pub columns : List ℕ

-- the columns of a call's class, over the input of its Window; none past the last call
abbrev pub of_call : WindowRule → PlanTree → Option ℕ → Option NodeColumns
of_call w input None = None
of_call w input (Some number) = option_map (λ (call : Call). record { node = input; columns = class_columns (class_at w call.class) }) (slice_get w.calls number)

-- the sort keys of a Limit, over its input
abbrev pub of_limit : LimitRule → PlanTree → Option ℕ → Option NodeColumns
of_limit limit input None = Some (record { node = input; columns = key_columns limit.keys })
of_limit limit input (Some number) = None

-- the node with a number in postorder, counted from 0; none past the last
abbrev pub node_at : PlanTree → ℕ → Option PlanTree
node_at (Scan table columns) number = if nat_eq number 0 then Some (Scan table columns) else None
node_at (Join condition left right) number = if nat_eq number (node_count left + node_count right) then Some (Join condition left right) else if nat_lt number (node_count left) then node_at left number else node_at right (number - node_count left)
node_at (Over step input) number = if nat_eq number (node_count input) then Some (Over step input) else node_at input number

-- the columns by which a node's call (its number given) or limit (no number) orders rows
abbrev pub ordered_at : Option ℕ → PlanTree → Option NodeColumns
ordered_at call (Over (Window w) input) = of_call w input call
ordered_at call (Over (Limit limit) input) = of_limit limit input call
ordered_at call plan = None

-- the columns by which the call or limit of the node with a number orders rows; none where the plan has no such call or limit
abbrev pub ordered_by : PlanTree → ℕ → Option ℕ → Option NodeColumns
ordered_by plan node call = option_and_then (ordered_at call) (node_at plan node)

-- whether a table's column is tied: these columns are computed from it
abbrev pub is_tied : NodeColumns → ℕ → ℕ → Bool
is_tied o table c = is_source o.node (has o.columns) table c
