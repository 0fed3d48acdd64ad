-- What is found of the plan that reads two texts is found of the texts.
use Rattle.std.proofs.Common.{ℕ, List, subst, sym}
use Rattle.wd_schema.specs.Schemas.{schema_of}
use Rattle.wd_schema.specs.Tables.{TableRule}
use Rattle.wd_plan.specs.Plans.{PlanTree, plan_of}
use Rattle.wd_resolve.specs.Answers.{resolved_of}
use Rattle.wd_query.specs.Readings.{ForReading, IsRead}
use Rattle.wd_query.specs.declared.read.PlannedQuery.{PlannedQuery}
use Rattle.wd_witness_text.specs.Json.{Spells}
use Rattle.wd_witness_text.specs.Witnesses.{WitnessRecord}
use Rattle.wd_refute.specs.Laws.{IsShown}
use Rattle.wd_refute.specs.Refutation.{IsRefuted}

pub for_reading : (schema query : List ℕ) (planned : PlannedQuery) (P : List TableRule → PlanTree → Type 0) → IsRead schema query planned → P (schema_of planned.schema) (plan_of planned.resolved.plan) → ForReading schema query P
for_reading schema query planned P read p = (resolved_of planned.resolved, read.reads, subst (λ tables. P tables (plan_of planned.resolved.plan)) (sym read.tables) p)

-- a text that spells a witness which shows two answers
pub refuted : (schema query : List ℕ) (planned : PlannedQuery) (w : WitnessRecord) (text : List ℕ) → IsRead schema query planned → IsShown (schema_of planned.schema) (plan_of planned.resolved.plan) w → Spells w text → IsRefuted schema query text
refuted schema query planned w text read shown spells =
    let there = subst (λ tables. IsShown tables (plan_of planned.resolved.plan) w) (sym read.tables) shown in
    (resolved_of planned.resolved, read.reads, record { said = w; spelled = spells; of_tables = there.of_tables; fits = there.fits; is_true = there.is_true })
