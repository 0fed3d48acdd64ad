-- Sorted orderings appended to those that are there, node by node.
use Rattle.std.specs.Prelude.{◌≡◌, ℕ, ◌+◌, ◌<◌, ◌≤◌, true, List, [], ◌++◌, drop, length, Option, ⊤}
use Rattle.wd_value.specs.Rows.{Instance}
use Rattle.wd_plan.specs.Outcomes.{RowsOrFault, class_among, ordering_at}
use Rattle.wd_plan.specs.Plans.{ClassRule, PlanTree, Step, step_classes, ordering_count}
use Rattle.wd_nodes.specs.Relation.{RelationOrFault, most_rows}
use Rattle.wd_eval.specs.Nodes.{IsEvaluated}
use Rattle.wd_eval.specs.Windows.{IsStepped}
use Rattle.wd_eval.specs.Steps.{has_large_step}
use Rattle.wd_eval.specs.Tied.{AreTied, IsSortedOver, turn_of}
use Rattle.wd_eval.specs.declared.error.EvalError.{EvalError}
use Rattle.wd_eval.specs.declared.turned.Turned.{Turned}
use Rattle.wd_eval.specs.declared.error.EvalError.TheVariants.{NotValid, TooManyRows, OutOfMemory}

-- the sorted orderings of the first n of some classes over an input, the first of them with this number
pub record AreSortedOver (classes : List ClassRule) (input : RowsOrFault) (turned : Option Turned) (first n : ℕ) (own : List (List ℕ)) : Type 0 where
  pub long : length own ≡ n
  pub each : (k : ℕ) → k < n → IsSortedOver (class_among classes k) (turn_of turned (first + k)) input (ordering_at own k)

-- they were appended to the orderings that were there
pub record ArePut (classes : List ClassRule) (input : RowsOrFault) (turned : Option Turned) (n : ℕ) (old new : List (List ℕ)) : Type 0 where
  pub own : List (List ℕ)
  pub grown : new ≡ old ++ own
  pub sorted : AreSortedOver classes input turned (length old) n own

-- those of all classes
abbrev pub AreAllPut : List ClassRule → RowsOrFault → Option Turned → List (List ℕ) → List (List ℕ) → Type 0
AreAllPut classes input turned old new = ArePut classes input turned (length classes) old new

-- those of a step, and what is found is what the step gives under them
pub record IsStableStep (step : Step) (input : RowsOrFault) (turned : Option Turned) (old new : List (List ℕ)) (found : RowsOrFault) : Type 0 where
  pub put : AreAllPut (step_classes step) input turned old new
  pub stepped : IsStepped step input new (length old) found

-- the plan's sorted orderings were appended to those that were there, and the outcome is that under them
pub record IsUnderStable (plan : PlanTree) (tables instance : Instance) (turned : Option Turned) (old new : List (List ℕ)) (o : RelationOrFault) : Type 0 where
  pub own : List (List ℕ)
  pub grown : new ≡ old ++ own
  pub evaluated : IsEvaluated most_rows plan tables instance new (length old) (record { outcome = o; next = length new })
  pub tied : AreTied plan instance turned (length old) (drop (length old) new)

-- some step is too large under all sorted orderings
abbrev pub IsStableTooLargeFrom : PlanTree → Instance → Option Turned → ℕ → Type 0
IsStableTooLargeFrom plan instance turned first = (choice : List (List ℕ)) → ordering_count plan ≤ length choice → AreTied plan instance turned first choice → has_large_step plan instance choice ≡ true

-- out of memory, or such a step
abbrev pub IsUntied : PlanTree → Instance → Option Turned → ℕ → EvalError → Type 0
IsUntied plan instance turned first (NotValid place) = ⊥
IsUntied plan instance turned first TooManyRows = IsStableTooLargeFrom plan instance turned first
IsUntied plan instance turned first OutOfMemory = ⊤

-- out of memory alone
abbrev pub IsOutOfMemory : EvalError → Type 0
IsOutOfMemory (NotValid place) = ⊥
IsOutOfMemory TooManyRows = ⊥
IsOutOfMemory OutOfMemory = ⊤

-- so many empty orderings were put there
pub record IsPutEmpty (count : ℕ) (old new : List (List ℕ)) : Type 0 where
  pub own : List (List ℕ)
  pub grown : new ≡ old ++ own
  pub long : length own ≡ count
  pub empty : (k : ℕ) → k < count → ordering_at own k ≡ []
