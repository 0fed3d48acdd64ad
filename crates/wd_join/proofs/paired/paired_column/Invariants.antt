use Rattle.std.proofs.Common.{◌≡◌, map, take}
use Rattle.wd_value.specs.Rows.{column_of}
use Rattle.wd_joined.specs.Pairs.{rows_paired}
use Rattle.wd_join.proofs.paired.paired_column.Given as goal

abbrev pub invariant-loop-pair : goal.invariant-loop-pair
invariant-loop-pair l = l.values.items ≡ map (λ row. column_of row l.column) (rows_paired l.left l.right (take l.pair-index l.pairs))
