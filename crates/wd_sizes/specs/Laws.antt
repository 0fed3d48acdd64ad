-- What the bounds say of outcomes.
use Rattle.std.specs.Prelude.{◌≡◌, ℕ, List, false}
use Rattle.wd_value.specs.Rows.{Instance}
use Rattle.wd_plan.specs.Choices.{AreLawful}
use Rattle.wd_plan.specs.Plans.{PlanTree}
use Rattle.wd_eval.specs.Steps.{has_large_step}
use Rattle.wd_sizes.specs.Sizes.{IsBounded}

-- where no step can have more than 10,000,000 rows, none has, under any lawful choice
abbrev pub BoundedAreSmall : Type 0
BoundedAreSmall = (plan : PlanTree) (instance : Instance) (choice : List (List ℕ)) → IsBounded plan instance → AreLawful plan instance choice → has_large_step plan instance choice ≡ false
