use Rattle.std.proofs.Common.{◌≤◌, drop, length}
use Rattle.wd_sort.specs.Sorting.{IsStableSortOf}
use Rattle.wd_sort.proofs.columns.sort_by_columns.Given as goal

abbrev pub invariant-loop-left : goal.invariant-loop-left
invariant-loop-left l = record {
  within : l.left ≤ length l.columns;
  sorted : IsStableSortOf (drop l.left l.columns) l.rows l.positions l.order.items;
}

abbrev pub decreases-loop-left : goal.decreases-loop-left
decreases-loop-left l = l.left
