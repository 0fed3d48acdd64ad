-- What is told of a reading's simpler plan is told of the texts.
use Rattle.std.proofs.Common.{◌≡◌, ℕ, List, Option, Result, None, Some, Ok, Err, IfNone, IfOk, IfSome, inr, subst}
use Rattle.std.specs.declared.alloc.Global.{Global}
use Rattle.std.specs.declared.vec.Vec.{Vec}
use Rattle.wd_accept.specs.Acceptance.{HaveOneAnswer}
use Rattle.wd_analyse.specs.Analysis.{IsAnswer}
use Rattle.wd_analyse.specs.declared.analysis.Mark.{Mark}
use Rattle.wd_analyse.specs.declared.analysis.Reason.{Reason}
use Rattle.wd_analyse.specs.declared.analysis.Analysis.TheVariants.{Open}
use Rattle.wd_plan.specs.Plans.{PlanTree, plan_of}
use Rattle.wd_query.proofs.ForReadings.{for_reading}
use Rattle.wd_query.specs.Readings.{IsRead}
use Rattle.wd_query.specs.declared.read.PlannedQuery.{PlannedQuery}
use Rattle.wd_schema.specs.Schemas.{schema_of}
use Rattle.wd_schema.specs.Tables.{TableRule}
use Rattle.wd_simpler.specs.Simpler.{simpler}
use Rattle.wd_certain.specs.Certain.{IsCertain, IsCertainOf, IsOpenStill, IsUncertain}
use Rattle.wd_certain.specs.Laws.{CertainHasOne}
use Rattle.wd_certain.specs.declared.certain.Certain.{Certain}

-- the analysis of the simpler plan leaves something open
pub open_still : (tables : List TableRule) (plan own : PlanTree) (reasons : Vec Reason Global) (marks : Vec Mark Global) → own ≡ simpler tables plan → IsAnswer tables own (Open reasons marks) → IsOpenStill tables plan
open_still tables plan own reasons marks same is = inr (Open reasons marks, subst (λ p. IsAnswer tables p (Open reasons marks)) same is, is.sound)

pub certain : {E : Type 0} (schema query : List ℕ) (planned : PlannedQuery) → IsRead schema query planned → (r : Result (Option Certain) E)
    → IfOk r (λ o. IfSome o (λ c. IsCertainOf c (schema_of planned.schema) (plan_of planned.resolved.plan))) → IfOk r (λ o. IfSome o (IsCertain schema query))
certain schema query planned is (Ok (Some c)) h = for_reading schema query planned is (IsCertainOf c) h
certain schema query planned is (Ok None) h = h
certain schema query planned is (Err error) h = h

pub has_one : {E : Type 0} (schema query : List ℕ) → CertainHasOne → (r : Result (Option Certain) E)
    → IfOk r (λ o. IfSome o (IsCertain schema query)) → IfOk r (λ o. IfSome o (λ _. HaveOneAnswer schema query))
has_one schema query law (Ok (Some c)) h = law schema query c h
has_one schema query law (Ok None) h = h
has_one schema query law (Err error) h = h

pub uncertain : {E : Type 0} (schema query : List ℕ) (planned : PlannedQuery) → IsRead schema query planned → (r : Result (Option Certain) E)
    → IfOk r (λ o. IfNone o (IsOpenStill (schema_of planned.schema) (plan_of planned.resolved.plan))) → IfOk r (λ o. IfNone o (IsUncertain schema query))
uncertain schema query planned is (Ok (Some c)) h = h
uncertain schema query planned is (Ok None) h = inr (for_reading schema query planned is IsOpenStill h)
uncertain schema query planned is (Err error) h = h
