use Rattle.std.proofs.Common.{◌≡◌, drop}
use Rattle.wd_value.specs.Rows.{row_at}
use Rattle.wd_join.specs.Matching.{lacks_key}
use Rattle.wd_join.proofs.walk.lacks_key.Given as goal

abbrev pub invariant-loop-column : goal.invariant-loop-column
invariant-loop-column l = lacks_key (drop l.column-index l.columns) (row_at l.left l.position) ≡ lacks_key l.columns (row_at l.left l.position)
