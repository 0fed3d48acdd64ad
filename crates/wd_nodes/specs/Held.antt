-- Tables that stay where they are, and the rows of others that are moved into the evaluation of a plan.
use Rattle.std.specs.Prelude.{◌≡◌, ℕ, ◌+◌, Option, None, Some, List, [], ◌∷◌, drop}
use Rattle.wd_value.specs.Rows.{Instance, Row, table_at}
use Rattle.wd_plan.specs.Plans.{PlanTree, Scan, Join, Over}

-- for each Scan of a plan, in the order of the walk, the rows that are moved in for it, if there are any
abbrev pub MovedIn : Type 0
MovedIn = List (Option (List Row))

-- what is moved in for the next Scan
abbrev pub next_moved : MovedIn → Option (List Row)
next_moved [] = None
next_moved (first ∷ others) = first

-- what a Scan of a table reads: the rows that are moved in for it, or else those of the tables
abbrev pub read_at : Instance → Option (List Row) → ℕ → List Row
read_at tables None table = table_at tables table
read_at tables (Some rows) table = rows

-- how many Scans a plan has
abbrev pub scan_count : PlanTree → ℕ
scan_count (Scan table columns) = 1
scan_count (Join condition left right) = scan_count left + scan_count right
scan_count (Over step input) = scan_count input

-- each Scan of the plan reads the rows that its table has in the instance
abbrev pub IsHeld : PlanTree → Instance → MovedIn → Instance → Type 0
IsHeld (Scan table columns) tables moved_in instance = read_at tables (next_moved moved_in) table ≡ table_at instance table
IsHeld (Join condition left right) tables moved_in instance = IsHeld left tables moved_in instance × IsHeld right tables (drop (scan_count left) moved_in) instance
IsHeld (Over step input) tables moved_in instance = IsHeld input tables moved_in instance

-- they do so for some instance
pub record IsHeldForSome (plan : PlanTree) (tables : Instance) (moved_in : MovedIn) : Type 0 where
  pub instance : Instance
  pub held : IsHeld plan tables moved_in instance
