-- What holds of the plan that two texts are read as.
use Rattle.std.proofs.Common.{ℕ, List, subst, sym}
use Rattle.wd_schema.specs.Schemas.{schema_of}
use Rattle.wd_schema.specs.Tables.{TableRule}
use Rattle.wd_plan.specs.Plans.{PlanTree, plan_of}
use Rattle.wd_resolve.specs.Answers.{Answer, resolved_of}
use Rattle.wd_query.specs.Readings.{ForAnswer, ForReading, IsRead}
use Rattle.wd_query.specs.declared.read.PlannedQuery.{PlannedQuery}

pub for_reading : (schema query : List ℕ) (planned : PlannedQuery) → IsRead schema query planned → (P : List TableRule → PlanTree → Type 0) → P (schema_of planned.schema) (plan_of planned.resolved.plan) → ForReading schema query P
for_reading schema query planned is P h = (resolved_of planned.resolved, is.reads, subst (λ tables. P tables (plan_of planned.resolved.plan)) (sym is.tables) h)

pub for_answer : (schema query : List ℕ) (planned : PlannedQuery) → IsRead schema query planned → (P : List TableRule → Answer → Type 0) → P (schema_of planned.schema) (resolved_of planned.resolved) → ForAnswer schema query P
for_answer schema query planned is P h = (resolved_of planned.resolved, is.reads, subst (λ tables. P tables (resolved_of planned.resolved)) (sym is.tables) h)
