use Rattle.std.proofs.Common.{◌≡◌, take}
use Rattle.wd_value.specs.Rows.{rows_of}
use Rattle.wd_joined.specs.Pairs.{rows_paired}
use Rattle.wd_join.proofs.paired.paired_list.Given as goal

abbrev pub invariant-loop-pair : goal.invariant-loop-pair
invariant-loop-pair l = rows_of l.rows.items ≡ rows_paired l.left l.right (take l.pair-index l.pairs)
