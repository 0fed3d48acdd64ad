-- The steps of a plan that have more rows than allowed; a step that faults has none.
use Rattle.std.specs.Prelude.{ℕ, Bool, ◌||◌, List, drop}
use Rattle.wd_value.specs.Rows.{Instance}
use Rattle.wd_plan.specs.Outcomes.{outcome}
use Rattle.wd_plan.specs.Plans.{PlanTree, Scan, Join, Over, ordering_count}
use Rattle.wd_join.specs.Joins.{has_more_rows}
use Rattle.wd_nodes.specs.Relation.{most_rows}

-- whether the plan's last step has more than `most` rows
abbrev pub is_larger : ℕ → PlanTree → Instance → List (List ℕ) → Bool
is_larger most plan instance choice = has_more_rows most (outcome plan instance choice)

-- whether some step of the plan has more than `most` rows, under a choice
abbrev pub has_larger_step : ℕ → PlanTree → Instance → List (List ℕ) → Bool
has_larger_step most (Scan table columns) instance choice = is_larger most (Scan table columns) instance choice
has_larger_step most (Join condition left right) instance choice =
    (has_larger_step most left instance choice || has_larger_step most right instance (drop (ordering_count left) choice)) || is_larger most (Join condition left right) instance choice
has_larger_step most (Over step input) instance choice = has_larger_step most input instance choice || is_larger most (Over step input) instance choice

-- the same for the most rows that any step may have
abbrev pub is_large : PlanTree → Instance → List (List ℕ) → Bool
is_large plan instance choice = is_larger most_rows plan instance choice

abbrev pub has_large_step : PlanTree → Instance → List (List ℕ) → Bool
has_large_step plan instance choice = has_larger_step most_rows plan instance choice
