-- The numbers and the places of refusals, what they are about, and the properties of the inputs for which they are reported.
use Rattle.std.specs.Prelude.{◌≡◌, ◌≢◌, ◌⊎◌, ℕ, ⊤, List, ◌∷◌, ◌++◌, Option, Some, None, All, Any}
use Rattle.wd_schema.specs.Tables.{TableRule}
use Rattle.wd_query.specs.Causes.{HasTextCause, text_number, text_place}
use Rattle.wd_query.specs.Readings.{ForReading}
use Rattle.wd_query.specs.declared.error.TextError.TheVariants as text
use Rattle.wd_resolve.specs.Answers.{Answer}
use Rattle.wd_resolve.specs.Laws.{Reads}
use Rattle.wd_value.specs.Rows.{Instance}
use Rattle.wd_plan.specs.Plans.{PlanTree}
use Rattle.wd_tables.specs.Causes as records
use Rattle.wd_tables.specs.declared.error.DataError.{DataError}
use Rattle.wd_eval.specs.Errors as steps
use Rattle.wd_eval.specs.Runs.{IsRunRefused}
use Rattle.wd_eval.specs.declared.error.EvalError.{EvalError}
use Rattle.wd_run.specs.Runs.{HoldsData, IsGiven, IsNamed, ReadsTable}
use Rattle.wd_run.specs.declared.error.RunError.{RunError}
use Rattle.wd_run.specs.declared.error.RunError.TheVariants as run
use Rattle.wd_run.specs.declared.error.Origin.{Origin}
use Rattle.wd_run.specs.declared.error.Origin.TheVariants as origin

-- ---- numbers and places

abbrev pub run_number : RunError → Option ℕ
run_number (run.Texts error) = text_number error
run_number (run.Given name) = Some 707
run_number (run.Data name error) = records.number_of error
run_number (run.Evaluation error) = steps.number_of error
run_number run.OutOfMemory = None

abbrev pub run_place : RunError → Option ℕ
run_place (run.Texts error) = text_place error
run_place (run.Given name) = None
run_place (run.Data name error) = records.place_of error
run_place (run.Evaluation error) = steps.place_of error
run_place run.OutOfMemory = None

-- the input that a refusal is about; data is identified by its name
abbrev pub ComesFrom : RunError → Origin → Type 0
ComesFrom (run.Texts (text.Schema error)) origin.Schema = ⊤
ComesFrom (run.Texts (text.Query error)) origin.Query = ⊤
ComesFrom (run.Given name) (origin.Data shown) = shown.now ≡ name
ComesFrom (run.Data name error) (origin.Data shown) = shown.now ≡ name
ComesFrom (run.Evaluation error) origin.Run = ⊤
ComesFrom run.OutOfMemory origin.Run = ⊤
ComesFrom error other = ⊥

-- ---- what is in the inputs

-- data is given under a name that no table has
pub record IsNoTable (tables : List TableRule) (given : List (List ℕ × List ℕ)) (name : List ℕ) : Type 0 where
  pub there : IsGiven given name
  pub unnamed : (n : ℕ) → IsNamed tables name n → ⊥

-- data is given twice under the name
pub record IsGivenTwice (given : List (List ℕ × List ℕ)) (name : List ℕ) : Type 0 where
  pub before : List (List ℕ × List ℕ)
  pub again : List ℕ
  pub after : List (List ℕ × List ℕ)
  pub parts : given ≡ before ++ (name, again) ∷ after
  pub earlier : IsGiven before name

-- the plan scans the table of that name, which has no data
pub record LacksData (tables : List TableRule) (given : List (List ℕ × List ℕ)) (plan : PlanTree) (name : List ℕ) : Type 0 where
  pub number : ℕ
  pub named : IsNamed tables name number
  pub scanned : ReadsTable plan number
  pub none : All (λ g. g.0 ≢ name) given

-- why data is refused because of its name
abbrev pub HasNameCause : List TableRule → List (List ℕ × List ℕ) → PlanTree → List ℕ → Type 0
HasNameCause tables given plan name = IsNoTable tables given name ⊎ (IsGivenTwice given name ⊎ LacksData tables given plan name)

-- a text is given under the name of a table, and is refused as its data
pub record HasDataCause (tables : List TableRule) (given : List (List ℕ × List ℕ)) (name : List ℕ) (error : DataError) : Type 0 where
  pub number : ℕ
  pub named : IsNamed tables name number
  pub text : List ℕ
  pub there : Any (λ g. g ≡ (name, text)) given
  pub cause : records.HasCause named.table text error

-- the evaluation of the plan over the instance of the data is refused
pub record HasStepCause (tables : List TableRule) (given : List (List ℕ × List ℕ)) (plan : PlanTree) (error : EvalError) : Type 0 where
  pub instance : Instance
  pub data_holds : HoldsData tables given instance
  pub cause : IsRunRefused plan instance error

-- the inputs have the refusal's cause; where memory runs out they need not have one
abbrev pub HasCause : List ℕ → List ℕ → List (List ℕ × List ℕ) → RunError → Type 0
HasCause schema query given (run.Texts error) = HasTextCause schema query error
HasCause schema query given (run.Given name) = ForReading schema query (λ tables plan. HasNameCause tables given plan name)
HasCause schema query given (run.Data name error) = ForReading schema query (λ tables plan. HasDataCause tables given name error)
HasCause schema query given (run.Evaluation error) = ForReading schema query (λ tables plan. HasStepCause tables given plan error)
HasCause schema query given run.OutOfMemory = ⊤
