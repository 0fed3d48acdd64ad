-- What the simpler plan shows.
use Rattle.std.specs.Prelude.{◌≡◌, ℕ, List, true}
use Rattle.wd_schema.specs.Tables.{TableRule}
use Rattle.wd_plan.specs.Fits.{fits}
use Rattle.wd_plan.specs.Plans.{PlanTree}
use Rattle.wd_accept.specs.Acceptance.{HaveOneAnswer}
use Rattle.wd_rules.specs.Laws.{HasOneAnswer}
use Rattle.wd_simpler.specs.Simpler.{simpler}
use Rattle.wd_certain.specs.Certain.{IsCertain}
use Rattle.wd_certain.specs.declared.certain.Certain.{Certain}

-- a plan whose simpler plan has one answer has one answer
abbrev pub SimplerHasOne : Type 0
SimplerHasOne = (tables : List TableRule) (plan : PlanTree) → fits tables plan ≡ true → HasOneAnswer tables (simpler tables plan) → HasOneAnswer tables plan

-- texts of which the simpler plan has a valid certificate have one answer
abbrev pub CertainHasOne : Type 0
CertainHasOne = (schema query : List ℕ) (certain : Certain) → IsCertain schema query certain → HaveOneAnswer schema query
