-- What a plan gives under a choice, or why it gives nothing, as contracts see it.
use Rattle.std.specs.Prelude.{◌≡◌, ℕ, true, false, List, Result, ⊤}
use Rattle.wd_value.specs.Rows.{Instance}
use Rattle.wd_plan.specs.declared.plan.Outcome.{Outcome}
use Rattle.wd_plan.specs.Choices.{IsValidChoice}
use Rattle.wd_plan.specs.Outcomes.{RowsOrFault, outcome, outcome_of}
use Rattle.wd_plan.specs.Plans.{PlanTree}
use Rattle.wd_nodes.specs.Results.{OkOr}
use Rattle.wd_nodes.specs.Relation.{most_rows}
use Rattle.wd_eval.specs.Windows.{IsLeast}
use Rattle.wd_eval.specs.Steps.{has_large_step, has_larger_step}
use Rattle.wd_eval.specs.Wrong.{IsWrongOrdering}
use Rattle.wd_eval.specs.declared.error.EvalError.{EvalError}
use Rattle.wd_eval.specs.declared.error.EvalError.TheVariants.{NotValid, TooManyRows, OutOfMemory}

-- why a plan has no outcome under a choice, where a step may have so many rows: each error only where its cause stands
abbrev pub IsRefusedWithin : ℕ → PlanTree → Instance → List (List ℕ) → EvalError → Type 0
IsRefusedWithin most plan instance choice (NotValid place) = IsLeast (IsWrongOrdering plan instance choice) place
IsRefusedWithin most plan instance choice TooManyRows = has_larger_step most plan instance choice ≡ true
IsRefusedWithin most plan instance choice OutOfMemory = ⊤

-- the same for the most rows that any step may have
abbrev pub IsRefused : PlanTree → Instance → List (List ℕ) → EvalError → Type 0
IsRefused plan instance choice e = IsRefusedWithin most_rows plan instance choice e

-- a valid choice, under which no step is too large
pub record IsAllowedChoice (plan : PlanTree) (instance : Instance) (choice : List (List ℕ)) : Type 0 where
  pub valid : IsValidChoice plan instance choice
  pub small : has_large_step plan instance choice ≡ false

-- the outcome under a valid choice, under which no step has more than so many rows
pub record IsOutcomeWithin (most : ℕ) (plan : PlanTree) (instance : Instance) (choice : List (List ℕ)) (o : RowsOrFault) : Type 0 where
  pub valid : IsValidChoice plan instance choice
  pub small : has_larger_step most plan instance choice ≡ false
  pub is : o ≡ outcome plan instance choice

abbrev pub IsOutcome : PlanTree → Instance → List (List ℕ) → RowsOrFault → Type 0
IsOutcome plan instance choice o = IsOutcomeWithin most_rows plan instance choice o

-- the outcome under a choice, where a step may have so many rows, or why there is none
abbrev pub IsOutcomeWithinOrRefused : ℕ → PlanTree → Instance → List (List ℕ) → Result Outcome EvalError → Type 0
IsOutcomeWithinOrRefused most plan instance choice r = OkOr (λ o. IsOutcomeWithin most plan instance choice (outcome_of o)) (IsRefusedWithin most plan instance choice) r

abbrev pub IsOutcomeOrRefused : PlanTree → Instance → List (List ℕ) → Result Outcome EvalError → Type 0
IsOutcomeOrRefused plan instance choice r = IsOutcomeWithinOrRefused most_rows plan instance choice r

-- the choice is allowed, or why it is not
abbrev pub IsAllowedOrRefused : {X : Type 0} → PlanTree → Instance → List (List ℕ) → Result X EvalError → Type 0
IsAllowedOrRefused plan instance choice r = OkOr (λ allowed. IsAllowedChoice plan instance choice) (IsRefused plan instance choice) r
