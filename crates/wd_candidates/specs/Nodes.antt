-- The nodes of a plan: how wide they are, and a walk to the one with a number.
use Rattle.std.specs.Prelude.{ℕ, zero, suc, ◌+◌, ◌≤◌, Result, Ok, Err}
use Rattle.wd_plan.specs.Fits.{step_width, width}
use Rattle.wd_plan.specs.Plans.{PlanTree, Scan, Join, Over}

-- no node has more than 1,024 columns
abbrev pub AreNarrow : PlanTree → Type 0
AreNarrow (Scan table columns) = columns ≤ 1024
AreNarrow (Join condition left right) = (AreNarrow left × AreNarrow right) × (width left + width right ≤ 1024)
AreNarrow (Over step input) = AreNarrow input × (step_width step (width input) ≤ 1024)

-- the node that was found below, or the node itself, where 0 is left of the number
abbrev pub or_own : PlanTree → Result PlanTree ℕ → Result PlanTree ℕ
or_own own (Ok node) = Ok node
or_own own (Err zero) = Ok own
or_own own (Err (suc more)) = Err more

-- the node that was found on the left side, or the search of the right side with what is left of the number
abbrev pub or_right : Result PlanTree ℕ → (ℕ → Result PlanTree ℕ) → Result PlanTree ℕ
or_right (Ok node) right = Ok node
or_right (Err more) right = right more

-- the node with a number in postorder; past the last node, the number minus the number of nodes
abbrev pub found : PlanTree → ℕ → Result PlanTree ℕ
found (Scan table columns) number = or_own (Scan table columns) (Err number)
found (Join condition left right) number = or_own (Join condition left right) (or_right (found left number) (found right))
found (Over step input) number = or_own (Over step input) (found input number)
