use Rattle.std.proofs.Common.{rules, length}
use Rattle.wd_sort.specs.Sorting.{IsStableSortOf}
use Rattle.wd_partition.specs.Columns.{class_by, given_positions, sort_columns}
use Rattle.wd_partition.proofs.Grouping.{IsOrdering-from_given}
use Rattle.wd_partition.proofs.ordering.sorted_ordering.Goals as goal

pub returns-clause-lawful : goal.returns-clause-lawful
returns-clause-lawful c =
    let rows = c.args.rows.now in
    let class = class_by c.args.partition.now c.args.keys.now in
    let sort : IsStableSortOf (sort_columns class) rows (given_positions c.args.turn (length c.args.rows.now)) c.in_ok-ordering.ordering.items = search rules in
    IsOrdering-from_given class rows c.args.turn c.in_ok-ordering.ordering.items sort
