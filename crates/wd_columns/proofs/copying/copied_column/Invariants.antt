use Rattle.std.proofs.Common.{◌≡◌, map, take}
use Rattle.wd_value.specs.Rows.{column_of, rows_at}
use Rattle.wd_columns.proofs.copying.copied_column.Given as goal

abbrev pub invariant-loop-position : goal.invariant-loop-position
invariant-loop-position l = l.values.items ≡ map (λ row. column_of row l.column) (rows_at l.rows (take l.position-index l.positions))
