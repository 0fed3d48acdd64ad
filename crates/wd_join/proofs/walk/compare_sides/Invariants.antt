use Rattle.std.proofs.Common.{◌≡◌, drop}
use Rattle.wd_value.specs.Rows.{row_at}
use Rattle.wd_join.specs.Matching.{compare_sides}
use Rattle.wd_join.proofs.walk.compare_sides.Given as goal

abbrev pub invariant-loop-column : goal.invariant-loop-column
invariant-loop-column l = compare_sides (drop l.column-index l.columns) (row_at l.left l.first) (row_at l.right l.second) ≡ compare_sides l.columns (row_at l.left l.first) (row_at l.right l.second)
