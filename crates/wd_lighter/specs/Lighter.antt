-- A plan over which the same choices are sorted as over another one, with the same outcome under each of them.
use Rattle.std.specs.Prelude.{◌≡◌, ℕ, true, List, Option}
use Rattle.wd_value.specs.Rows.{Instance}
use Rattle.wd_schema.specs.Meets.{Meets}
use Rattle.wd_schema.specs.Tables.{TableRule}
use Rattle.wd_plan.specs.Fits.{fits}
use Rattle.wd_plan.specs.Outcomes.{outcome}
use Rattle.wd_plan.specs.Plans.{PlanTree, ordering_count}
use Rattle.wd_eval.specs.Tied.{IsTurnedTooLarge, IsValidTurnedChoice}
use Rattle.wd_eval.specs.declared.turned.Turned.{Turned}

-- each sorted choice of the other plan, whose orderings leave rows that tie as they are or take them in another turn, is one of the plan
-- too, and both have the same outcome under it; where a step of the other plan is too large, one of the plan is
pub record AreSearchedAlike (plan other : PlanTree) (instance : Instance) : Type 0 where
  pub valid : (turned : Option Turned) (choice : List (List ℕ)) → IsValidTurnedChoice other instance turned choice → IsValidTurnedChoice plan instance turned choice
  pub same : (turned : Option Turned) (choice : List (List ℕ)) → IsValidTurnedChoice other instance turned choice → outcome plan instance choice ≡ outcome other instance choice
  pub large : (turned : Option Turned) → IsTurnedTooLarge other instance turned → IsTurnedTooLarge plan instance turned

-- the other plan fits the schema, has as many orderings, and is searched alike over each instance of the schema
pub record IsLighter (tables : List TableRule) (plan other : PlanTree) : Type 0 where
  pub fitting : fits tables other ≡ true
  pub orderings : ordering_count other ≡ ordering_count plan
  pub alike : (instance : Instance) → Meets tables instance → AreSearchedAlike plan other instance
