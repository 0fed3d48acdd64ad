-- The law of simpler plans.
use Rattle.std.specs.Prelude.{◌≡◌, ◌↔◌, ℕ, List, true}
use Rattle.wd_value.specs.Rows.{Instance}
use Rattle.wd_schema.specs.Meets.{Meets}
use Rattle.wd_schema.specs.Tables.{TableRule}
use Rattle.wd_plan.specs.Choices.{IsValidChoice}
use Rattle.wd_plan.specs.Fits.{fits}
use Rattle.wd_plan.specs.Outcomes.{outcome}
use Rattle.wd_plan.specs.Plans.{PlanTree}
use Rattle.wd_simpler.specs.Simpler.{simpler}

-- the same choices are valid for two plans over an instance, and both have the same outcome under each of them
pub record AreAlike (plan other : PlanTree) (instance : Instance) : Type 0 where
  pub valid : (choice : List (List ℕ)) → IsValidChoice plan instance choice ↔ IsValidChoice other instance choice
  pub same : (choice : List (List ℕ)) → IsValidChoice plan instance choice → outcome plan instance choice ≡ outcome other instance choice

-- over each instance of a schema a plan and the simpler one are alike
abbrev pub SimplerIsAlike : Type 0
SimplerIsAlike = (tables : List TableRule) (plan : PlanTree) (instance : Instance) → fits tables plan ≡ true → Meets tables instance → AreAlike plan (simpler tables plan) instance
