-- What the check of a witness's choices finds, one after the other.
use Rattle.std.specs.Prelude.{◌≡◌, ℕ, List, true, ⊤}
use Rattle.wd_value.specs.Rows.{Instance}
use Rattle.wd_plan.specs.Choices.{IsValidChoice}
use Rattle.wd_plan.specs.Outcomes.{Agree, RowsOrFault, outcome}
use Rattle.wd_plan.specs.Plans.{PlanTree}
use Rattle.wd_eval.specs.Steps.{has_large_step}
use Rattle.wd_refute.specs.declared.error.Refusal.{Refusal}
use Rattle.wd_refute.specs.declared.error.Refusal.TheVariants as refusal

-- two valid choices, whose outcomes do not agree
pub record Differ (plan : PlanTree) (instance : Instance) (first second : List (List ℕ)) : Type 0 where
  pub first_valid : IsValidChoice plan instance first
  pub second_valid : IsValidChoice plan instance second
  pub differ : ¬ Agree (outcome plan instance first) (outcome plan instance second)

-- the outcome under a valid choice
pub record IsOutcomeUnder (plan : PlanTree) (instance : Instance) (choice : List (List ℕ)) (o : RowsOrFault) : Type 0 where
  pub valid : IsValidChoice plan instance choice
  pub is : o ≡ outcome plan instance choice

-- why there is no outcome under a choice
abbrev pub RefusesChoice : Refusal → PlanTree → Instance → List (List ℕ) → Type 0
RefusesChoice refusal.NotValid plan instance choice = ¬ IsValidChoice plan instance choice
RefusesChoice refusal.TooManyRows plan instance choice = has_large_step plan instance choice ≡ true
RefusesChoice refusal.OutOfMemory plan instance choice = ⊤
RefusesChoice _ plan instance choice = ⊥
