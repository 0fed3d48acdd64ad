use Rattle.std.proofs.Common.{◌≡◌, rules}
use Rattle.wd_partition.specs.Columns.{class_by}
use Rattle.wd_partition.specs.Members.{members_of}
use Rattle.wd_partition.specs.Orderings.{AreGrouped}
use Rattle.wd_partition.proofs.Assembly.{ArePartitions-from}
use Rattle.wd_partition.proofs.Grouping.{IsGroupedOrdering-from_AreGrouped}
use Rattle.wd_partition.proofs.listing.partitions.Goals as goal

pub partitions_of-requires-clause-lawful : goal.partitions_of-requires-clause-lawful
partitions_of-requires-clause-lawful c =
    let rows = c.args.rows.now in
    let class = class_by c.args.partition.now c.args.keys.now in
    let are : AreGrouped class rows c.args.ordering.now c.in-Some.grouped.positions.items = search rules in
    IsGroupedOrdering-from_AreGrouped class rows c.args.ordering.now c.in-Some.grouped.positions.items are

pub returns-in_ok-found-in-Some : goal.returns-in_ok-found-in-Some
returns-in_ok-found-in-Some c =
    let rows = c.args.rows.now in
    let class = class_by c.args.partition.now c.args.keys.now in
    let are : AreGrouped class rows c.args.ordering.now c.in-Some.grouped.positions.items = search rules in
    let is : c.in_ok-found-in-Some.found ≡ members_of class c.args.numbers rows c.in-Some.grouped.positions.items = search rules in
    ArePartitions-from class c.args.numbers rows c.args.ordering.now c.in-Some.grouped.positions.items c.in_ok-found-in-Some.found are is
