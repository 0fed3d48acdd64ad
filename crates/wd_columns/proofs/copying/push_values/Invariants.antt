use Rattle.std.proofs.Common.{◌≡◌, ◌++◌, take}
use Rattle.wd_value.specs.Rows.{row_at}
use Rattle.wd_columns.proofs.copying.push_values.Given as goal

abbrev pub invariant-loop-column : goal.invariant-loop-column
invariant-loop-column l = l.row.items ≡ l.fn.row.items ++ take l.column (row_at l.rows l.position)
