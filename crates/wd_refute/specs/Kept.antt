-- What is kept of an outcome to compare another one with it.
use Rattle.std.specs.Prelude.{◌≡◌, ℕ, List, Ok, Err}
use Rattle.wd_value.specs.Rows.{Instance}
use Rattle.wd_plan.specs.Choices.{IsValidChoice}
use Rattle.wd_plan.specs.Outcomes.{RowsOrFault, outcome}
use Rattle.wd_plan.specs.Plans.{PlanTree}
use Rattle.wd_refute.specs.Numbers.{AreSortedNumbers}
use Rattle.wd_refute.specs.declared.kept.Kept.{Kept}
use Rattle.wd_refute.specs.declared.kept.Kept.TheVariants.{Numbered, Sorted}

-- the sorted numbers of the outcome's rows, or the outcome itself
abbrev pub IsKept : RowsOrFault → Kept → Type 0
IsKept (Ok rows) (Numbered n) = AreSortedNumbers n.places.items rows n.numbers.items
IsKept (Err fault) (Numbered n) = ⊥
IsKept o (Sorted sorted) = sorted ≡ o

-- what is kept of the outcome under a valid choice
pub record IsKeptUnder (plan : PlanTree) (instance : Instance) (choice : List (List ℕ)) (k : Kept) : Type 0 where
  pub valid : IsValidChoice plan instance choice
  pub kept : IsKept (outcome plan instance choice) k
