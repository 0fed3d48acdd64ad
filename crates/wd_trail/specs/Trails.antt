-- What the nodes of a plan give under sorted orderings, and what one of them gives where an ordering is turned.
use Rattle.std.specs.Prelude.{◌≡◌, ℕ, false, List, Option, Some, None, Ok, IfSome}
use Rattle.wd_value.specs.Rows.{Row, Instance}
use Rattle.wd_plan.specs.Choices.{IsValidChoice}
use Rattle.wd_plan.specs.Expressions.{Expression}
use Rattle.wd_plan.specs.Outcomes.{outcome, join_outcome, pairs}
use Rattle.wd_plan.specs.Plans.{PlanTree, Scan, Join, Over}
use Rattle.wd_nodes.specs.Relation.{IsSmall, most_rows}
use Rattle.wd_eval.specs.Steps.{has_large_step}
use Rattle.wd_eval.specs.Tied.{AreTied}
use Rattle.wd_eval.specs.Turning.{IsStepUnder}
use Rattle.wd_eval.specs.declared.turned.Turned.{Turned}
use Rattle.wd_trail.specs.declared.trail.Trail.{Trail}
use Rattle.wd_trail.specs.declared.trail.Trail.TheVariants as kept
use Rattle.wd_trail.specs.declared.turned.Change.{Change}
use Rattle.wd_trail.specs.declared.turned.Change.TheVariants.{Same, Rows, Unknown}

-- the rows that a plan gives under sorted orderings, one of which may take rows that tie in another turn; no step is too large under
-- them, and the plan's first ordering has the number `first`
pub record Gives (plan : PlanTree) (instance : Instance) (turned : Option Turned) (first : ℕ) (rows : List Row) : Type 0 where
  pub choice : List (List ℕ)
  pub valid : IsValidChoice plan instance choice
  pub tied : AreTied plan instance turned first choice
  pub small : has_large_step plan instance choice ≡ false
  pub is : outcome plan instance choice ≡ Ok rows

-- the rows that a Join gives over those of its sides, not too many
abbrev pub IsJoinOver : Option Expression → List Row → List Row → List Row → Type 0
IsJoinOver condition left right rows = IsSmall most_rows (join_outcome condition (pairs left right)) (Ok rows)

-- ---- a trail

-- the rows of the last node
abbrev pub rows_in : Trail → List Row
rows_in (kept.Part rows) = rows
rows_in (kept.Step' rows p below) = rows
rows_in (kept.Join' rows p left q right) = rows

-- it has the rows of a plan's nodes under sorted orderings, none of which takes rows that tie in another turn
abbrev pub IsTrail : Trail → PlanTree → Instance → Type 0
IsTrail (kept.Part rows) plan instance = Gives plan instance None 0 rows
IsTrail (kept.Step' rows p below) (Scan table columns) instance = ⊥
IsTrail (kept.Step' rows p below) (Join condition left right) instance = ⊥
IsTrail (kept.Step' rows p below) (Over step input) instance = IsTrail below input instance × IsStepUnder step (rows_in below) None (Ok rows)
IsTrail (kept.Join' rows p on_left q on_right) (Scan table columns) instance = ⊥
IsTrail (kept.Join' rows p on_left q on_right) (Join condition left right) instance =
    IsTrail on_left left instance × IsTrail on_right right instance × IsJoinOver condition (rows_in on_left) (rows_in on_right) rows
IsTrail (kept.Join' rows p on_left q on_right) (Over step input) instance = ⊥

-- ---- a change

-- the rows that a node gives after a change, where they can be told, beside those that it gave
abbrev pub rows_shown : List Row → Change → Option (List Row)
rows_shown given Same = Some given
rows_shown given (Rows rows) = Some rows
rows_shown given Unknown = None

-- where the rows found are told, those that they were made of are told too, and it is so of both
abbrev pub IsToldOver : (List Row → List Row → Type 0) → Option (List Row) → Option (List Row) → Type 0
IsToldOver IsSo input found = IfSome found (λ r. (rows : List Row) × (input ≡ Some rows) × IsSo rows r)
