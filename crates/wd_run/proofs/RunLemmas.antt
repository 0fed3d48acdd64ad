-- Readings, answers and refusals of runs from those of their parts.
use Rattle.std.proofs.Common.{ℕ, List, inl, inr, refl, subst, sym}
use Rattle.wd_schema.specs.Tables.{TableRule}
use Rattle.wd_schema.specs.Schemas.{schema_of}
use Rattle.wd_plan.specs.Outcomes.{RowsOrFault}
use Rattle.wd_plan.specs.Plans.{PlanTree, plan_of}
use Rattle.wd_query.specs.declared.read.PlannedQuery.{PlannedQuery}
use Rattle.wd_query.specs.Readings.{IsRead}
use Rattle.wd_resolve.specs.Answers.{resolved_of}
use Rattle.wd_query.proofs.ForReadings.{for_reading}
use Rattle.wd_run.specs.Causes.{HasCause, HasDataCause, HasNameCause, HasStepCause}
use Rattle.wd_run.specs.Loads.{GivesOutcome, RefusesData, RefusesOutcome, RefusesPlan}
use Rattle.wd_run.specs.Runs.{HasData, HoldsData, IsAnswer}
use Rattle.wd_run.specs.declared.error.RunError.{RunError}
use Rattle.wd_run.specs.declared.error.RunError.TheVariants as run

-- the texts read as the plan, over the schema that is declared
module _ (schema query : List ℕ) (given : List (List ℕ × List ℕ)) (planned : PlannedQuery) (is : IsRead schema query planned) where
  pub IsAnswer-from_outcome : (o : RowsOrFault) → GivesOutcome (schema_of planned.schema) given (plan_of planned.resolved.plan) o → IsAnswer schema query given planned.resolved.names.items o
  IsAnswer-from_outcome o gives = record {
    read = resolved_of planned.resolved;
    reads = is.reads;
    instance = gives.instance;
    has_data = subst (λ tables. HasData tables given (plan_of planned.resolved.plan)) (sym is.tables) gives.has_data;
    data_holds = subst (λ tables. HoldsData tables given gives.instance) (sym is.tables) gives.data_holds;
    answers = record { choice = gives.ran.choice; valid = gives.ran.outcome.valid; small = gives.ran.outcome.small; is = gives.ran.outcome.is };
    named = refl;
  }

  pub HasCause-from_outcome : (e : RunError) → RefusesOutcome (schema_of planned.schema) given (plan_of planned.resolved.plan) e → HasCause schema query given e
  HasCause-from_outcome (run.Given name) cause = for_reading schema query planned is (λ tables plan. HasNameCause tables given plan name) cause
  HasCause-from_outcome (run.Data name error) cause = for_reading schema query planned is (λ tables plan. HasDataCause tables given name error) cause
  HasCause-from_outcome (run.Evaluation error) cause = for_reading schema query planned is (λ tables plan. HasStepCause tables given plan error) cause
  HasCause-from_outcome run.OutOfMemory h = tt
  HasCause-from_outcome (run.Texts error) h = absurd h

-- what refuses the data, or the plan over it, leaves the plan without an outcome
module _ (tables : List TableRule) (given : List (List ℕ × List ℕ)) (plan : PlanTree) where
  pub RefusesOutcome-from_data : (e : RunError) → RefusesData tables given e → RefusesOutcome tables given plan e
  RefusesOutcome-from_data (run.Given name) (inl none) = inl none
  RefusesOutcome-from_data (run.Given name) (inr twice) = inr (inl twice)
  RefusesOutcome-from_data (run.Data name error) cause = cause
  RefusesOutcome-from_data run.OutOfMemory h = tt
  RefusesOutcome-from_data _ h = absurd h

  pub RefusesOutcome-from_plan : (e : RunError) → RefusesPlan tables given plan e → RefusesOutcome tables given plan e
  RefusesOutcome-from_plan (run.Given name) lacks = inr (inr lacks)
  RefusesOutcome-from_plan run.OutOfMemory h = tt
  RefusesOutcome-from_plan _ h = absurd h
