use Rattle.std.proofs.Common.{◌≡◌, take}
use Rattle.wd_partition.specs.Columns.{class_by, sort_columns}
use Rattle.wd_partition.proofs.columns.sort_columns.Given as goal

abbrev pub invariant-loop-key : goal.invariant-loop-key
invariant-loop-key l = l.columns.items ≡ sort_columns (class_by l.partition (take l.key-index l.keys))
