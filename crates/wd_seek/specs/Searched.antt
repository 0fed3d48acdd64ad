-- The plan over which candidates are evaluated.
use Rattle.std.specs.Prelude.{◌≡◌, List, true}
use Rattle.wd_schema.specs.Tables.{TableRule}
use Rattle.wd_plan.specs.Plans.{PlanTree, plan_of}
use Rattle.wd_lighter.specs.Lighter.{IsLighter}
use Rattle.wd_rules.specs.Laws.{HasOneAnswer}
use Rattle.wd_seek.specs.declared.searched.Searched.{Searched}

-- it is searched as the plan is, and where that is said has one answer
pub record IsSearched (tables : List TableRule) (plan : PlanTree) (searched : Searched) : Type 0 where
  pub lighter : IsLighter tables plan (plan_of searched.plan.now)
  pub one : searched.has_one ≡ true → HasOneAnswer tables (plan_of searched.plan.now)
