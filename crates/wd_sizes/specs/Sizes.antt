-- How many rows the steps of a plan can have.
use Rattle.std.specs.Prelude.{ℕ, ◌+◌, ◌*◌, ◌≤◌, length}
use Rattle.wd_value.specs.Rows.{Instance, table_at}
use Rattle.wd_nodes.specs.Relation.{most_rows}
use Rattle.wd_plan.specs.Plans.{Step, Filter, Map, Group, Window, Distinct, Limit, PlanTree, Scan, Join, Over}

-- what a step can have of so many rows of its input: no more than these, and of a Group one more for each set, whose groups they are
abbrev pub step_at_most : Step → ℕ → ℕ
step_at_most (Filter condition) n = n
step_at_most (Map outputs) n = n
step_at_most (Group rule) n = length rule.sets * (n + 1)
step_at_most (Window w) n = n
step_at_most Distinct n = n
step_at_most (Limit limit) n = n

-- what the last step of a plan can have; a Join all pairs of rows
abbrev pub rows_at_most : PlanTree → Instance → ℕ
rows_at_most (Scan table columns) instance = length (table_at instance table)
rows_at_most (Join condition left right) instance = rows_at_most left instance * rows_at_most right instance
rows_at_most (Over step input) instance = step_at_most step (rows_at_most input instance)

-- no step of the plan can have more than 10,000,000
abbrev pub IsBounded : PlanTree → Instance → Type 0
IsBounded (Scan table columns) instance = rows_at_most (Scan table columns) instance ≤ most_rows
IsBounded (Join condition left right) instance = IsBounded left instance × IsBounded right instance × (rows_at_most (Join condition left right) instance ≤ most_rows)
IsBounded (Over step input) instance = IsBounded input instance × (rows_at_most (Over step input) instance ≤ most_rows)
