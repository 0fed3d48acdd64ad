use Rattle.std.proofs.Common.{◌≡◌, take}
use Rattle.wd_partition.specs.Columns.{partition_columns}
use Rattle.wd_partition.proofs.columns.partition_columns.Given as goal

abbrev pub invariant-loop-column : goal.invariant-loop-column
invariant-loop-column l = l.columns.items ≡ partition_columns (take l.column-index l.partition)
