-- The columns that the rows of a class are sorted by.
use Rattle.std.specs.Prelude.{ℕ, List, [], ◌∷◌, ◌++◌, map, reverse}
use Rattle.wd_value.specs.Bags.{positions}
use Rattle.wd_value.specs.declared.order.SortColumn.{SortColumn}
use Rattle.wd_value.specs.Keys.{ascending}
use Rattle.wd_plan.specs.Plans.{ClassRule}
use Rattle.wd_partition.specs.declared.turn.Turn.{Turn}
use Rattle.wd_partition.specs.declared.turn.Turn.TheVariants.{AsGiven, Reversed, Rotated, Exchanged}

-- the class with these partition columns and sort keys
abbrev pub class_by : List ℕ → List SortColumn → ClassRule
class_by partition order = record { partition = partition; order = order }

-- a partition's columns, ascending with NULL last
abbrev pub partition_columns : List ℕ → List SortColumn
partition_columns columns = map ascending columns

-- the partition's columns, followed by the sort keys
abbrev pub sort_columns : ClassRule → List SortColumn
sort_columns class = partition_columns class.partition ++ class.order

-- the first one moved to the end
abbrev pub rotated : List ℕ → List ℕ
rotated [] = []
rotated (a ∷ rest) = rest ++ a ∷ []

-- neighbours exchanged two by two; an odd last one stays
abbrev pub exchanged : List ℕ → List ℕ
exchanged [] = []
exchanged (a ∷ []) = a ∷ []
exchanged (a ∷ b ∷ rest) = b ∷ a ∷ exchanged rest

-- the positions of n rows, in the order in which they are taken
abbrev pub given_positions : Turn → ℕ → List ℕ
given_positions AsGiven n = positions n
given_positions Reversed n = reverse (positions n)
given_positions Rotated n = rotated (positions n)
given_positions Exchanged n = exchanged (positions n)
