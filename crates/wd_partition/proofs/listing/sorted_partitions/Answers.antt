use Rattle.std.proofs.Common.{◌≡◌, ◌∙◌, length, sym, subst, ap, rules}
use Rattle.wd_sort.specs.Sorting.{IsStableSortOf}
use Rattle.wd_partition.specs.Members.{members_of}
use Rattle.wd_partition.specs.Columns.{class_by, given_positions, partition_columns, sort_columns}
use Rattle.wd_partition.proofs.Grouping.{IsOrdering-from_given}
use Rattle.wd_partition.proofs.Stepping.{sorted_by_firsts}
use Rattle.wd_partition.proofs.listing.sorted_partitions.Goals as goal

pub partitions_of-requires-clause-lawful : goal.partitions_of-requires-clause-lawful
partitions_of-requires-clause-lawful c =
    let rows = c.args.rows.now in
    let class = class_by c.args.partition.now c.args.keys.now in
    let list = c.in_ok-index.index.positions.items in
    let sort : IsStableSortOf (sort_columns class) rows (given_positions c.args.turn (length c.args.rows.now)) list = search rules in
    record {
      lawful = IsOrdering-from_given class rows c.args.turn list sort;
      sorted = sorted_by_firsts (partition_columns c.args.partition.now) c.args.keys.now rows list sort.sorted;
    }

pub returns-clause-partitions : goal.returns-clause-partitions
returns-clause-partitions c =
    let rows = c.args.rows.now in
    let class = class_by c.args.partition.now c.args.keys.now in
    let list = c.in_ok-index.index.positions.items in
    let sort : IsStableSortOf (sort_columns class) rows (given_positions c.args.turn (length c.args.rows.now)) list = search rules in
    let same : c.in_ok-ordering.ordering.items ≡ list = search rules in
    let found : c.in_ok-partitions.partitions ≡ members_of class c.args.numbers rows list = search rules in
    record {
      lawful = IsOrdering-from_given class rows c.args.turn c.in_ok-ordering.ordering.items (subst (λ l. IsStableSortOf (sort_columns class) rows (given_positions c.args.turn (length c.args.rows.now)) l) (sym same) sort);
      each = found ∙ ap (members_of class c.args.numbers rows) (sym same);
    }
