-- Laws of choices: of those that leave rows that tie as they are, and of wrong orderings.
use Rattle.std.specs.Prelude.{◌≡◌, ℕ, List, Option}
use Rattle.wd_value.specs.Rows.{Instance}
use Rattle.wd_plan.specs.Choices.{IsValidChoice}
use Rattle.wd_plan.specs.Outcomes.{outcome}
use Rattle.wd_plan.specs.Plans.{PlanTree}
use Rattle.wd_eval.specs.Tied.{IsTurnedChoice}
use Rattle.wd_eval.specs.Wrong.{IsWrongOrdering}
use Rattle.wd_eval.specs.declared.turned.Turned.{Turned}

-- each plan has such a choice over each instance, whichever ordering takes rows that tie in another turn
abbrev pub HasStableChoice : Type 0
HasStableChoice = (plan : PlanTree) (instance : Instance) (turned : Option Turned) → (choice : List (List ℕ)) × IsTurnedChoice plan instance turned choice

-- all such choices give one outcome
abbrev pub HasOneStableOutcome : Type 0
HasOneStableOutcome = (plan : PlanTree) (instance : Instance) (turned : Option Turned) (a b : List (List ℕ)) → IsTurnedChoice plan instance turned a → IsTurnedChoice plan instance turned b → outcome plan instance a ≡ outcome plan instance b

-- a valid choice has no wrong ordering
abbrev pub HasNoWrongOrdering : Type 0
HasNoWrongOrdering = (plan : PlanTree) (instance : Instance) (choice : List (List ℕ)) (place : ℕ) → IsWrongOrdering plan instance choice place → IsValidChoice plan instance choice → ⊥
