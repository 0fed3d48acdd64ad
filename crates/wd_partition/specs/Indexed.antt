-- The positions sorted by partition, with the step to each.
use Rattle.std.specs.Prelude.{ℕ}
use Rattle.std.specs.declared.cmp.Ordering.{Ordering}
use Rattle.wd_sort.specs.Sorting.{compare_rows_at}
use Rattle.wd_plan.specs.Plans.{ClassRule}
use Rattle.wd_partition.specs.declared.indexed.IndexedRows.{IndexedRows}
use Rattle.wd_partition.specs.Columns.{class_by, partition_columns}
use Rattle.wd_partition.specs.Orderings.{IsGroupedOrdering}
use Rattle.wd_partition.specs.Steps.{AreSteps}

abbrev pub class_of : IndexedRows → ClassRule
class_of indexed = class_by indexed.partition.now indexed.keys.now

-- the order of its positions by partition, and by keys
abbrev pub by_partition : IndexedRows → ℕ → ℕ → Ordering
by_partition indexed = compare_rows_at (partition_columns indexed.partition.now) indexed.rows.now

abbrev pub by_keys : IndexedRows → ℕ → ℕ → Ordering
by_keys indexed = compare_rows_at indexed.keys.now indexed.rows.now

-- a lawful ordering, one partition after another, with its steps
pub record AreIndexedRows (indexed : IndexedRows) : Type 0 where
  pub lawful : IsGroupedOrdering (class_of indexed) indexed.rows.now indexed.positions.now
  pub steps : AreSteps (by_partition indexed) (by_keys indexed) indexed.positions.now indexed.steps.now
