use Rattle.std.proofs.Common.{◌≡◌, map, take}
use Rattle.wd_value.specs.Rows.{rows_of}
use Rattle.wd_joined.specs.Pairs.{rows_paired}
use Rattle.wd_column_store.proofs.Copied.{column_in}
use Rattle.wd_join.proofs.paired.paired_columns.Given as goal

abbrev pub invariant-loop-column : goal.invariant-loop-column
invariant-loop-column l = rows_of l.picked.items ≡ map (column_in (rows_paired l.left l.right l.pairs)) (take l.column-index l.columns)
