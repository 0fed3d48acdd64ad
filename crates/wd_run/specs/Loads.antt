-- What the readers of data return and refuse, each for its part.
use Rattle.std.specs.Prelude.{◌≡◌, ◌⊎◌, ℕ, ⊤, List, Some, slice_get}
use Rattle.wd_schema.specs.Tables.{TableRule}
use Rattle.wd_plan.specs.Plans.{PlanTree}
use Rattle.wd_tables.specs.Causes as records
use Rattle.wd_value.specs.Rows.{Instance}
use Rattle.wd_plan.specs.Outcomes.{RowsOrFault}
use Rattle.wd_eval.specs.Runs.{IsRun}
use Rattle.wd_run.specs.Causes.{HasDataCause, HasNameCause, HasStepCause, IsGivenTwice, IsNoTable, LacksData}
use Rattle.wd_run.specs.Runs.{HasData, HoldsData, IsGiven, IsNamed}
use Rattle.wd_run.specs.declared.error.RunError.{RunError}
use Rattle.wd_run.specs.declared.error.RunError.TheVariants as run

-- 707 for the name, and the condition holds; or out of memory
abbrev pub RefusesName : List ℕ → Type 0 → RunError → Type 0
RefusesName name P (run.Given refused) = (refused ≡ name) × P
RefusesName name P run.OutOfMemory = ⊤
RefusesName name P _ = ⊥

-- a text is refused under its name, after the texts given before it
abbrev pub RefusesText : List TableRule → List (List ℕ × List ℕ) → List ℕ → List ℕ → RunError → Type 0
RefusesText tables earlier name text (run.Given refused) = (refused ≡ name) × (((n : ℕ) → IsNamed tables name n → ⊥) ⊎ IsGiven earlier name)
RefusesText tables earlier name text (run.Data refused error) = (refused ≡ name) × ((n : ℕ) × (named : IsNamed tables name n) × records.HasCause named.table text error)
RefusesText tables earlier name text run.OutOfMemory = ⊤
RefusesText tables earlier name text _ = ⊥

-- the rows of a table are refused under its name
abbrev pub RefusesRows : TableRule → List ℕ → RunError → Type 0
RefusesRows table text (run.Data refused error) = (refused ≡ table.name) × records.HasCause table text error
RefusesRows table text run.OutOfMemory = ⊤
RefusesRows table text _ = ⊥

-- why the given data is refused, whatever the plan
abbrev pub RefusesData : List TableRule → List (List ℕ × List ℕ) → RunError → Type 0
RefusesData tables given (run.Given name) = IsNoTable tables given name ⊎ IsGivenTwice given name
RefusesData tables given (run.Data name error) = HasDataCause tables given name error
RefusesData tables given run.OutOfMemory = ⊤
RefusesData tables given _ = ⊥

-- a table that the plan scans has no data
abbrev pub RefusesPlan : List TableRule → List (List ℕ × List ℕ) → PlanTree → RunError → Type 0
RefusesPlan tables given plan (run.Given name) = LacksData tables given plan name
RefusesPlan tables given plan run.OutOfMemory = ⊤
RefusesPlan tables given plan _ = ⊥

-- the outcome of a plan over the data given: each table that the plan scans has data
pub record GivesOutcome (tables : List TableRule) (given : List (List ℕ × List ℕ)) (plan : PlanTree) (o : RowsOrFault) : Type 0 where
  pub instance : Instance
  pub has_data : HasData tables given plan
  pub data_holds : HoldsData tables given instance
  pub ran : IsRun plan instance o

-- why a plan has no outcome over the data given
abbrev pub RefusesOutcome : List TableRule → List (List ℕ × List ℕ) → PlanTree → RunError → Type 0
RefusesOutcome tables given plan (run.Given name) = HasNameCause tables given plan name
RefusesOutcome tables given plan (run.Data name error) = HasDataCause tables given name error
RefusesOutcome tables given plan (run.Evaluation error) = HasStepCause tables given plan error
RefusesOutcome tables given plan run.OutOfMemory = ⊤
RefusesOutcome tables given plan (run.Texts error) = ⊥

-- the table of that number is this one, and has the name
abbrev pub FindsTable : List TableRule → List ℕ → ℕ → TableRule → Type 0
FindsTable tables name number table = (slice_get tables number ≡ Some table) × (table.name ≡ name)
