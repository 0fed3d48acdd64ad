-- An ordering of a class and its positions by partition.
use Rattle.std.specs.Prelude.{ℕ, List, IsSorted}
use Rattle.wd_value.specs.Rows.{Row}
use Rattle.wd_sort.specs.Sorting.{IsStableSortOf, compare_rows_at}
use Rattle.wd_plan.specs.Plans.{ClassRule}
use Rattle.wd_plan.specs.Sorting.{IsOrdering}
use Rattle.wd_partition.specs.Columns.{partition_columns}

-- the positions of a lawful ordering, one partition after another, and in each in the ordering's order
pub record AreGrouped (class : ClassRule) (rows : List Row) (ordering grouped : List ℕ) : Type 0 where
  pub lawful : IsOrdering class rows ordering
  pub sorted : IsStableSortOf (partition_columns class.partition) rows ordering grouped

-- a lawful ordering that is sorted by the partition's columns, and so has one partition after another
pub record IsGroupedOrdering (class : ClassRule) (rows : List Row) (grouped : List ℕ) : Type 0 where
  pub lawful : IsOrdering class rows grouped
  pub sorted : IsSorted (compare_rows_at (partition_columns class.partition) rows) grouped
