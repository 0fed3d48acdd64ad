-- The rows that are kept one way or the other.
use Rattle.std.specs.Prelude.{List}
use Rattle.wd_value.specs.Rows.{Row, rows_of}
use Rattle.wd_columns.specs.declared.source.Kept.{Kept}
use Rattle.wd_columns.specs.declared.source.Kept.TheVariants.{ByRow, ByColumn, ByPosition}

-- a list of rows, the rows that stand along columns, or joined rows
abbrev pub rows_kept : Kept → List Row
rows_kept (ByRow rows) = rows_of rows.now
rows_kept (ByColumn columns) = columns.now
rows_kept (ByPosition rows) = rows.now
