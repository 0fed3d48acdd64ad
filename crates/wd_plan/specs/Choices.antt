-- The choices of orderings that a plan allows over an instance.
use Rattle.std.specs.Prelude.{◌≡◌, ℕ, ◌<◌, List, [], length, drop, Ok, Err, ⊤}
use Rattle.std.specs.List.{AllByRecursion}
use Rattle.wd_value.specs.Rows.{Row, Instance}
use Rattle.wd_plan.specs.Plans.{ClassRule, PlanTree, Scan, Join, Over, step_classes, ordering_count, own_orderings}
use Rattle.wd_plan.specs.Outcomes.{RowsOrFault, outcome, class_among, ordering_at}
use Rattle.wd_plan.specs.Sorting.{IsOrdering}

-- one property of the rows where there are rows, and another where there is a fault
abbrev pub AtRows : RowsOrFault → (List Row → Type 0) → Type 0 → Type 0
AtRows (Ok rows) P Q = P rows
AtRows (Err fault) P Q = Q

-- one lawful ordering of the rows for each of several classes
pub record AreOrderings (classes : List ClassRule) (rows : List Row) (orderings : List (List ℕ)) : Type 0 where
  pub number : length orderings ≡ length classes
  pub each : (n : ℕ) → n < length classes → IsOrdering (class_among classes n) rows (ordering_at orderings n)

-- where the input has rows, one lawful ordering of them for each class; where it is a fault, only empty ones
abbrev pub AreOrderingsOver : List ClassRule → RowsOrFault → List (List ℕ) → Type 0
AreOrderingsOver classes input orderings = AtRows input (λ rows. AreOrderings classes rows orderings) (AllByRecursion (λ o. o ≡ []) orderings)

-- each ordering is lawful over its step's input rows under this choice, and empty where the input is a fault
abbrev pub AreLawful : PlanTree → Instance → List (List ℕ) → Type 0
AreLawful (Scan table columns) instance choice = ⊤
AreLawful (Join condition left right) instance choice = AreLawful left instance choice × AreLawful right instance (drop (ordering_count left) choice)
AreLawful (Over step input) instance choice = AreLawful input instance choice × AreOrderingsOver (step_classes step) (outcome input instance choice) (own_orderings step input choice)

-- a valid choice: one lawful ordering for each class of each step, in postorder, and no further one
pub record IsValidChoice (plan : PlanTree) (instance : Instance) (choice : List (List ℕ)) : Type 0 where
  pub number : length choice ≡ ordering_count plan
  pub lawful : AreLawful plan instance choice

-- an answer of a plan over an instance: its outcome under some valid choice
pub record IsAnswerOf (plan : PlanTree) (instance : Instance) (answer : RowsOrFault) : Type 0 where
  pub choice : List (List ℕ)
  pub valid : IsValidChoice plan instance choice
  pub is : answer ≡ outcome plan instance choice
