-- What a plan gives under the choice that leaves rows that tie as they are, or why it gives nothing.
use Rattle.std.specs.Prelude.{◌≡◌, ℕ, false, List, Option, None, Result}
use Rattle.wd_value.specs.Rows.{Instance}
use Rattle.wd_plan.specs.Choices.{IsValidChoice}
use Rattle.wd_plan.specs.Outcomes.{RowsOrFault, outcome}
use Rattle.wd_plan.specs.Plans.{PlanTree}
use Rattle.wd_nodes.specs.Results.{OkOr}
use Rattle.wd_eval.specs.Windows.{orderings_of}
use Rattle.wd_eval.specs.Steps.{has_large_step}
use Rattle.wd_eval.specs.Judged.{IsOutcome}
use Rattle.wd_eval.specs.Tied.{IsStableChoice, IsStableRefused, IsTurnedRefused, IsValidTurnedChoice}
use Rattle.wd_eval.specs.declared.error.EvalError.{EvalError}
use Rattle.wd_eval.specs.declared.eval.TurnedAnswer.{TurnedAnswer}
use Rattle.wd_eval.specs.declared.turned.Turned.{Turned}

-- the orderings are such a choice, but for one that may take rows that tie in another turn, and this is the outcome under it
pub record IsUnderTurned (plan : PlanTree) (instance : Instance) (turned : Option Turned) (orderings : List (List ℕ)) (o : RowsOrFault) : Type 0 where
  pub choice : IsValidTurnedChoice plan instance turned orderings
  pub is : o ≡ outcome plan instance orderings

-- the two, or why there are none
abbrev pub IsTurnedAnswerOrRefused : PlanTree → Instance → Option Turned → Result TurnedAnswer EvalError → Type 0
IsTurnedAnswerOrRefused plan instance turned r = OkOr (λ t. IsUnderTurned plan instance turned (orderings_of t.choice.orderings.items) t.answer) (IsTurnedRefused plan instance turned) r

-- the outcome under a valid choice that leaves rows that tie as they are, and under which no step is too large
pub record IsRun (plan : PlanTree) (instance : Instance) (o : RowsOrFault) : Type 0 where
  pub choice : List (List ℕ)
  pub tied : IsStableChoice plan instance None choice
  pub outcome : IsOutcome plan instance choice o

-- why a plan has no outcome under that choice
abbrev pub IsRunRefused : PlanTree → Instance → EvalError → Type 0
IsRunRefused plan instance e = IsStableRefused plan instance None e

-- the outcome under that choice, as the view of a value has it, or why there is none
abbrev pub IsRunOrRefused : {X : Type 0} → (X → RowsOrFault) → PlanTree → Instance → Result X EvalError → Type 0
IsRunOrRefused view plan instance r = OkOr (λ x. IsRun plan instance (view x)) (IsRunRefused plan instance) r

-- an answer of a plan: its outcome under some valid choice, under which no step is too large
pub record IsAnswerWithin (plan : PlanTree) (instance : Instance) (answer : RowsOrFault) : Type 0 where
  pub choice : List (List ℕ)
  pub valid : IsValidChoice plan instance choice
  pub small : has_large_step plan instance choice ≡ false
  pub is : answer ≡ outcome plan instance choice
