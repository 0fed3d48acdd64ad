use Rattle.std.proofs.Common.{◌≡◌, map}
use Rattle.wd_value.specs.Bags.{positions}
use Rattle.wd_value.specs.Rows.{rows_at, rows_of}
use Rattle.wd_column_store.proofs.Copied.{column_in}
use Rattle.wd_columns.proofs.copying.copied_columns.Given as goal

abbrev pub invariant-loop-column : goal.invariant-loop-column
invariant-loop-column l = rows_of l.columns.items ≡ map (column_in (rows_at l.rows l.positions)) (positions l.column)
