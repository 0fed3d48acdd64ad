-- The choice that leaves rows that tie as they are, but for one ordering that takes them in another turn.
use Rattle.std.specs.Prelude.{◌≡◌, ℕ, ◌+◌, ◌<◌, false, List, [], length, drop, if◌then◌else◌, Option, Some, None, option_map, Result, nat_eq, true, ⊤}
use Rattle.wd_value.specs.Rows.{Row, Instance}
use Rattle.wd_sort.specs.Sorting.{IsStableSortOf}
use Rattle.wd_plan.specs.declared.plan.Choice.{Choice}
use Rattle.wd_plan.specs.Choices.{AtRows, IsValidChoice}
use Rattle.wd_plan.specs.Outcomes.{RowsOrFault, class_among, ordering_at, outcome}
use Rattle.wd_plan.specs.Plans.{ClassRule, PlanTree, Scan, Join, Over, step_classes, ordering_count}
use Rattle.wd_partition.specs.Columns.{given_positions, sort_columns}
use Rattle.wd_partition.specs.declared.turn.Turn.{Turn}
use Rattle.wd_partition.specs.declared.turn.Turn.TheVariants.{AsGiven, Reversed}
use Rattle.wd_nodes.specs.Results.{OkOr}
use Rattle.wd_eval.specs.Windows.{orderings_of}
use Rattle.wd_eval.specs.Steps.{has_large_step}
use Rattle.wd_eval.specs.declared.error.EvalError.{EvalError}
use Rattle.wd_eval.specs.declared.turned.Turned.{Turned}
use Rattle.wd_eval.specs.declared.error.EvalError.TheVariants.{NotValid, TooManyRows, OutOfMemory}

-- the stable sort of the positions, taken in this turn, by partition, ascending with NULL last, and then by the keys
abbrev pub IsSortedOrdering : ClassRule → Turn → List Row → List ℕ → Type 0
IsSortedOrdering class turn rows ordering = IsStableSortOf (sort_columns class) rows (given_positions turn (length rows)) ordering

-- that ordering of a step's input rows, and the empty list where the input is a fault
abbrev pub IsSortedOver : ClassRule → Turn → RowsOrFault → List ℕ → Type 0
IsSortedOver class turn input ordering = AtRows input (λ rows. IsSortedOrdering class turn rows ordering) (ordering ≡ [])

-- the turn in which the ordering with this number takes the positions: all but one take them as given
abbrev pub turn_of : Option Turned → ℕ → Turn
turn_of None number = AsGiven
turn_of (Some t) number = if nat_eq t.number number then t.turn else AsGiven

-- the ordering with this number, in which tied rows are taken in a turn
abbrev pub turned_at : Turn → ℕ → Turned
turned_at turn number = record { number = number; turn = turn }

-- each ordering is the sorted one over its step's input rows, as this choice makes them; the plan's first ordering has the
-- number `first`
abbrev pub AreTied : PlanTree → Instance → Option Turned → ℕ → List (List ℕ) → Type 0
AreTied (Scan table columns) instance turned first choice = ⊤
AreTied (Join condition left right) instance turned first choice =
    AreTied left instance turned first choice × AreTied right instance turned (first + ordering_count left) (drop (ordering_count left) choice)
AreTied (Over step input) instance turned first choice =
    AreTied input instance turned first choice
    × ((n : ℕ) → n < length (step_classes step) → IsSortedOver (class_among (step_classes step) n) (turn_of turned (first + ordering_count input + n)) (outcome input instance choice) (ordering_at choice (ordering_count input + n)))

-- the choice with one such ordering for each class of each step, in postorder
pub record IsTurnedChoice (plan : PlanTree) (instance : Instance) (turned : Option Turned) (choice : List (List ℕ)) : Type 0 where
  pub number : length choice ≡ ordering_count plan
  pub tied : AreTied plan instance turned 0 choice

-- that choice, which is valid; no step is too large under it
pub record IsValidTurnedChoice (plan : PlanTree) (instance : Instance) (turned : Option Turned) (choice : List (List ℕ)) : Type 0 where
  pub tied : IsTurnedChoice plan instance turned choice
  pub valid : IsValidChoice plan instance choice
  pub small : has_large_step plan instance choice ≡ false

-- some step is too large under that choice
pub record IsTurnedTooLarge (plan : PlanTree) (instance : Instance) (turned : Option Turned) : Type 0 where
  pub choice : List (List ℕ)
  pub tied : IsTurnedChoice plan instance turned choice
  pub large : has_large_step plan instance choice ≡ true

-- why it is not answered; it is never refused itself
abbrev pub IsTurnedRefused : PlanTree → Instance → Option Turned → EvalError → Type 0
IsTurnedRefused plan instance turned (NotValid place) = ⊥
IsTurnedRefused plan instance turned TooManyRows = IsTurnedTooLarge plan instance turned
IsTurnedRefused plan instance turned OutOfMemory = ⊤

-- that choice, or why it is not answered
abbrev pub IsTurnedOrRefused : PlanTree → Instance → Option Turned → Result Choice EvalError → Type 0
IsTurnedOrRefused plan instance turned r = OkOr (λ c. IsValidTurnedChoice plan instance turned (orderings_of c.orderings.items)) (IsTurnedRefused plan instance turned) r

-- ---- where that ordering is flipped: it takes the positions last to first

abbrev pub reversed : ℕ → Turned
reversed number = turned_at Reversed number

abbrev pub reverse_at : Option ℕ → Option Turned
reverse_at flipped = option_map reversed flipped

abbrev pub IsStableChoice : PlanTree → Instance → Option ℕ → List (List ℕ) → Type 0
IsStableChoice plan instance flipped choice = IsTurnedChoice plan instance (reverse_at flipped) choice

abbrev pub IsValidStableChoice : PlanTree → Instance → Option ℕ → List (List ℕ) → Type 0
IsValidStableChoice plan instance flipped choice = IsValidTurnedChoice plan instance (reverse_at flipped) choice

abbrev pub IsStableTooLarge : PlanTree → Instance → Option ℕ → Type 0
IsStableTooLarge plan instance flipped = IsTurnedTooLarge plan instance (reverse_at flipped)

abbrev pub IsStableRefused : PlanTree → Instance → Option ℕ → EvalError → Type 0
IsStableRefused plan instance flipped e = IsTurnedRefused plan instance (reverse_at flipped) e

abbrev pub IsStableChoiceOrRefused : PlanTree → Instance → Option ℕ → Result Choice EvalError → Type 0
IsStableChoiceOrRefused plan instance flipped r = IsTurnedOrRefused plan instance (reverse_at flipped) r
