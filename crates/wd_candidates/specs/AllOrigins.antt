-- The origins of all columns of a node, in order, and the numbers of the tables that a plan scans.
use Rattle.std.specs.Prelude.{ℕ, ◌<◌, List, ◌++◌, map, slice_index_or, Option, Some, None, option_and_then}
use Rattle.wd_value.specs.Bags.{positions}
use Rattle.wd_plan.specs.Expressions.{Expression}
use Rattle.wd_plan.specs.Plans.{PlanTree, Scan, Join, Over, Map, Group, Window}
use Rattle.wd_candidates.specs.declared.origins.TableColumn.{TableColumn}
use Rattle.wd_candidates.specs.Origins.{plain_column}

-- the origin of a column of a node, by the origins of all the node's columns
abbrev pub origin_in : List (Option TableColumn) → ℕ → Option TableColumn
origin_in origins c = slice_index_or origins c None

-- the origins of a table's columns
abbrev pub table_origins : ℕ → ℕ → List (Option TableColumn)
table_origins table columns = map (λ c. Some (record { table = table; column = c })) (positions columns)

-- the origin of a Map's output, by the origins of its input's columns
abbrev pub output_origin : List (Option TableColumn) → Expression → Option TableColumn
output_origin origins e = option_and_then (origin_in origins) (plain_column e)

-- the origins of a node's columns: a call has no origin
abbrev pub origins : PlanTree → List (Option TableColumn)
origins (Scan table columns) = table_origins table columns
origins (Join condition left right) = origins left ++ origins right
origins (Over (Map outputs) input) = map (output_origin (origins input)) outputs
origins (Over (Group g) input) = map (origin_in (origins input)) (positions g.columns) ++ map (λ call. None) g.calls
origins (Over (Window w) input) = origins input ++ map (λ call. None) w.calls
origins (Over step input) = origins input

-- a plan scans only tables with numbers below this
abbrev pub ScansBelow : ℕ → PlanTree → Type 0
ScansBelow tables (Scan table columns) = table < tables
ScansBelow tables (Join condition left right) = ScansBelow tables left × ScansBelow tables right
ScansBelow tables (Over step input) = ScansBelow tables input
