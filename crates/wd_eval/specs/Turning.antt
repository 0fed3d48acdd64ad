-- A step over rows, one of whose classes may take rows that tie in another turn.
use Rattle.std.specs.Prelude.{◌≡◌, ℕ, false, List, length, Option, Some, None, Result, Ok, Err}
use Rattle.wd_value.specs.Rows.{Row}
use Rattle.wd_value.specs.declared.value.Fault.{Fault}
use Rattle.wd_plan.specs.Outcomes.{RowsOrFault, class_at, ordering_at, step_outcome, window_outcome}
use Rattle.wd_plan.specs.Plans.{Step, WindowRule, step_classes}
use Rattle.wd_partition.specs.declared.turn.Turn.{Turn}
use Rattle.wd_join.specs.Joins.{has_more_rows}
use Rattle.wd_nodes.specs.Relation.{most_rows}
use Rattle.wd_eval.specs.Tied.{IsSortedOrdering}
use Rattle.wd_eval.specs.Ties.{AreSortedOver}
use Rattle.wd_eval.specs.declared.turned.Turned.{Turned}

-- what a step gives over rows under sorted orderings, one of which may take rows that tie in another turn; its first class has the number 0
pub record IsStepUnder (step : Step) (rows : List Row) (turned : Option Turned) (found : RowsOrFault) : Type 0 where
  pub own : List (List ℕ)
  pub sorted : AreSortedOver (step_classes step) (Ok rows) turned 0 (length (step_classes step)) own
  pub small : has_more_rows most_rows found ≡ false
  pub is : found ≡ step_outcome step own rows

-- as many orderings, and the same but for that of one class
pub record AreSameButFor (class : ℕ) (own others : List (List ℕ)) : Type 0 where
  pub long : length others ≡ length own
  pub same : (k : ℕ) → (k ≡ class → ⊥) → ordering_at others k ≡ ordering_at own k

-- what a Window gives where a class is turned: what it gave, other rows or a fault
abbrev pub rows_turned : List Row → Result (Option (List Row)) Fault → RowsOrFault
rows_turned given (Ok None) = Ok given
rows_turned given (Ok (Some rows)) = Ok rows
rows_turned given (Err fault) = Err fault

-- what a Window gives where one class is sorted with the positions taken in a turn, and the other classes have the same orderings
pub record IsTurnedWindow (w : WindowRule) (rows : List Row) (own : List (List ℕ)) (class : ℕ) (turn : Turn) (found : RowsOrFault) : Type 0 where
  pub others : List (List ℕ)
  pub same : AreSameButFor class own others
  pub sorted : IsSortedOrdering (class_at w class) turn rows (ordering_at others class)
  pub is : found ≡ window_outcome w rows others
