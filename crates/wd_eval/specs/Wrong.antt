-- The orderings of a choice that are missing, not lawful or left over.
use Rattle.std.specs.Prelude.{ℕ, ◌+◌, ◌<◌, ◌≤◌, List, drop, length, ◌⊎◌}
use Rattle.wd_value.specs.Rows.{Instance}
use Rattle.wd_plan.specs.Outcomes.{outcome}
use Rattle.wd_plan.specs.Plans.{PlanTree, Scan, Join, Over, step_classes, ordering_count}
use Rattle.wd_eval.specs.Windows.{IsWrongIn}

-- the place is the number of an ordering of the plan that is missing, or not lawful over its step's input rows, as this choice
-- makes them; the plan's first ordering has the number `first`
abbrev pub IsWrongFrom : PlanTree → Instance → List (List ℕ) → ℕ → ℕ → Type 0
IsWrongFrom (Scan table columns) instance choice first place = ⊥
IsWrongFrom (Join condition left right) instance choice first place = IsWrongFrom left instance choice first place ⊎ IsWrongFrom right instance choice (first + ordering_count left) place
IsWrongFrom (Over step input) instance choice first place =
    IsWrongFrom input instance choice first place ⊎ IsWrongIn (step_classes step) (outcome input instance (drop first choice)) choice (first + ordering_count input) place

-- the place is the number of an ordering of the choice that is missing, not lawful, or left over after those of the plan
abbrev pub IsWrongOrdering : PlanTree → Instance → List (List ℕ) → ℕ → Type 0
IsWrongOrdering plan instance choice place = IsWrongFrom plan instance choice 0 place ⊎ ((ordering_count plan ≤ place) × (place < length choice))
