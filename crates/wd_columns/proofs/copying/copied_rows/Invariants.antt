use Rattle.std.proofs.Common.{◌≡◌, take}
use Rattle.wd_value.specs.Rows.{rows_of, rows_at}
use Rattle.wd_columns.proofs.copying.copied_rows.Given as goal

abbrev pub invariant-loop-position : goal.invariant-loop-position
invariant-loop-position l = rows_of l.picked.items ≡ rows_at l.rows (take l.position-index l.positions)
