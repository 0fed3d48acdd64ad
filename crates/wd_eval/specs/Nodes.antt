-- A node of a plan under the orderings from a number on.
use Rattle.std.specs.Prelude.{◌≡◌, ℕ, ◌+◌, ◌≤◌, true, false, List, drop, length, ⊤, Result, Ok}
use Rattle.wd_value.specs.Rows.{Instance, rows_at}
use Rattle.wd_plan.specs.Choices.{AreLawful}
use Rattle.wd_plan.specs.Faults.{and_then}
use Rattle.wd_plan.specs.Outcomes.{RowsOrFault, limited_rows, ordering_at, outcome}
use Rattle.wd_plan.specs.Plans.{PlanTree, LimitRule, ordering_count}
use Rattle.wd_plan.specs.Sorting.{limit_class}
use Rattle.wd_join.specs.Joins.{has_more_rows}
use Rattle.wd_nodes.specs.Results.{OkOr}
use Rattle.wd_eval.specs.Windows.{HasOrdering, IsLeast, IsUnserved, IsWrong}
use Rattle.wd_eval.specs.Steps.{has_larger_step}
use Rattle.wd_nodes.specs.Relation.{RelationOrFault, relation_or_fault_of}
use Rattle.wd_eval.specs.Wrong.{IsWrongFrom}
use Rattle.wd_eval.specs.declared.error.EvalError.{EvalError}
use Rattle.wd_eval.specs.declared.error.EvalError.TheVariants.{NotValid, TooManyRows, OutOfMemory}

-- what a node gives, and the number of the next ordering
pub record Evaluated : Type 0 where
  pub outcome : RelationOrFault
  pub next : ℕ

-- the plan's orderings are there, each of them lawful
pub record IsServed (plan : PlanTree) (instance : Instance) (choice : List (List ℕ)) : Type 0 where
  pub present : ordering_count plan ≤ length choice
  pub lawful : AreLawful plan instance choice

-- the plan's outcome over the instance under the orderings from `first` on, as these tables show it, with the number of the next
-- one; no step has more than `most` rows
pub record IsEvaluated (most : ℕ) (plan : PlanTree) (tables instance : Instance) (choice : List (List ℕ)) (first : ℕ) (e : Evaluated) : Type 0 where
  pub is : relation_or_fault_of tables e.outcome ≡ outcome plan instance (drop first choice)
  pub next : e.next ≡ first + ordering_count plan
  pub served : IsServed plan instance (drop first choice)
  pub small : has_more_rows most (outcome plan instance (drop first choice)) ≡ false
  pub each : has_larger_step most plan instance (drop first choice) ≡ false

-- each error only where its cause stands, under the orderings from `first` on
abbrev pub IsStopped : ℕ → PlanTree → Instance → List (List ℕ) → ℕ → EvalError → Type 0
IsStopped most plan instance choice first (NotValid place) = IsLeast (IsWrongFrom plan instance choice first) place
IsStopped most plan instance choice first TooManyRows = has_larger_step most plan instance (drop first choice) ≡ true
IsStopped most plan instance choice first OutOfMemory = ⊤

-- ---- a Limit over what is below it

-- what a Limit gives over its input
abbrev pub cut_over : LimitRule → List ℕ → RowsOrFault → RowsOrFault
cut_over limit ordering input = and_then input (λ rows. Ok (limited_rows limit (rows_at rows ordering)))

-- the limit's ordering with this number is lawful, and what is found is what the Limit gives under it
pub record IsLimited (limit : LimitRule) (input : RowsOrFault) (choice : List (List ℕ)) (number : ℕ) (found : RowsOrFault) : Type 0 where
  pub served : HasOrdering (limit_class limit) input choice number
  pub is : found ≡ cut_over limit (ordering_at choice number) input

-- what a Limit gives over its input under the ordering with this number, as the view of a value has it, or why that is not lawful
abbrev pub IsLimitedOrUnserved : {X : Type 0} → (X → RowsOrFault) → LimitRule → RowsOrFault → List (List ℕ) → ℕ → Result X EvalError → Type 0
IsLimitedOrUnserved view limit input choice number r = OkOr (λ x. IsLimited limit input choice number (view x)) (IsUnserved (IsWrong (limit_class limit) input choice number)) r
