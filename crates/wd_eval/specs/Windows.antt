-- A step over its input, under the orderings of a choice from a number on.
use Rattle.std.specs.Prelude.{◌≡◌, ℕ, ◌+◌, ◌<◌, ◌≤◌, List, [], drop, take, length, map, ⊤, Result, Ok, Err}
use Rattle.std.specs.declared.alloc.Global.{Global}
use Rattle.std.specs.declared.vec.Vec.{Vec}
use Rattle.wd_plan.specs.Choices.{AtRows, AreOrderingsOver}
use Rattle.wd_plan.specs.Faults.{and_then}
use Rattle.wd_plan.specs.Outcomes.{RowsOrFault, class_among, ordering_at, step_outcome}
use Rattle.wd_plan.specs.Plans.{ClassRule, Step, Window, WindowRule, step_classes}
use Rattle.wd_plan.specs.Sorting.{IsOrdering}
use Rattle.wd_nodes.specs.Results.{OkOr}
use Rattle.wd_eval.specs.declared.error.EvalError.{EvalError}
use Rattle.wd_eval.specs.declared.error.EvalError.TheVariants.{NotValid, TooManyRows, OutOfMemory}

-- the orderings that a choice of the code shows
abbrev pub orderings_of : List (Vec ℕ Global) → List (List ℕ)
orderings_of choice = map (λ o. o.items) choice

-- not more rows than this
abbrev pub AreFew : ℕ → RowsOrFault → Type 0
AreFew most (Ok rows) = length rows ≤ most
AreFew most (Err fault) = ⊤

-- the orderings from the number `first` on serve these classes over an input: one for each class, each lawful, and the empty
-- list where the input is a fault
pub record AreServed (classes : List ClassRule) (input : RowsOrFault) (choice : List (List ℕ)) (first : ℕ) : Type 0 where
  pub present : first + length classes ≤ length choice
  pub lawful : AreOrderingsOver classes input (take (length classes) (drop first choice))

-- what a step gives over its input
abbrev pub step_over : Step → List (List ℕ) → RowsOrFault → RowsOrFault
step_over step orderings input = and_then input (step_outcome step orderings)

-- what is found is what a step gives over its input, under orderings that serve its classes
pub record IsStepped (step : Step) (input : RowsOrFault) (choice : List (List ℕ)) (first : ℕ) (found : RowsOrFault) : Type 0 where
  pub served : AreServed (step_classes step) input choice first
  pub is : found ≡ step_over step (take (length (step_classes step)) (drop first choice)) input

-- the ordering with this number is there, and is one of the class over its input: of the rows, and the empty list where the
-- input is a fault
pub record HasOrdering (class : ClassRule) (input : RowsOrFault) (choice : List (List ℕ)) (number : ℕ) : Type 0 where
  pub present : number < length choice
  pub lawful : AtRows input (λ rows. IsOrdering class rows (ordering_at choice number)) (ordering_at choice number ≡ [])

-- the place is this number, and the class has no such ordering there: it is missing or not lawful
abbrev pub IsWrong : ClassRule → RowsOrFault → List (List ℕ) → ℕ → ℕ → Type 0
IsWrong class input choice number place = (place ≡ number) × (HasOrdering class input choice number → ⊥)

-- the place is that of one of these classes with no such ordering, where the orderings of the classes stand from the number
-- `first` on
pub record IsWrongIn (classes : List ClassRule) (input : RowsOrFault) (choice : List (List ℕ)) (first place : ℕ) : Type 0 where
  pub number : ℕ
  pub within : number < length classes
  pub wrong : IsWrong (class_among classes number) input choice (first + number) place

-- the least number of which this holds
abbrev pub IsLeast : (ℕ → Type 0) → ℕ → Type 0
IsLeast Holds n = Holds n × ((m : ℕ) → m < n → Holds m → ⊥)

-- a place of which this holds, or out of memory
abbrev pub IsUnserved : (ℕ → Type 0) → EvalError → Type 0
IsUnserved IsPlace (NotValid place) = IsPlace place
IsUnserved IsPlace TooManyRows = ⊥
IsUnserved IsPlace OutOfMemory = ⊤

-- the orderings from the number `first` on do not serve these classes over an input: the place is that of the first of them that
-- is missing or not lawful
abbrev pub AreUnserved : List ClassRule → RowsOrFault → List (List ℕ) → ℕ → EvalError → Type 0
AreUnserved classes input choice first e = IsUnserved (IsLeast (IsWrongIn classes input choice first)) e

-- what a step gives over its input under the orderings from the number `first` on, as the view of a value has it, or why they do
-- not serve it
abbrev pub IsSteppedOrUnserved : {X : Type 0} → (X → RowsOrFault) → Step → RowsOrFault → List (List ℕ) → ℕ → Result X EvalError → Type 0
IsSteppedOrUnserved view step input choice first r = OkOr (λ x. IsStepped step input choice first (view x)) (AreUnserved (step_classes step) input choice first) r

-- the same of a Window
abbrev pub IsExtendedOrUnserved : {X : Type 0} → (X → RowsOrFault) → WindowRule → RowsOrFault → List (List ℕ) → ℕ → Result X EvalError → Type 0
IsExtendedOrUnserved view w input choice first r = IsSteppedOrUnserved view (Window w) input choice first r
