-- The rows that are owned one way or the other.
use Rattle.std.specs.Prelude.{◌≡◌, List, Result, Ok, Err}
use Rattle.wd_value.specs.Rows.{Row, rows_of}
use Rattle.wd_columns.specs.declared.own.Owned.{Owned}
use Rattle.wd_columns.specs.declared.own.Owned.TheVariants.{ByRow, ByColumn, ByPosition}

-- a list of rows, the rows that stand along columns, or joined rows
abbrev pub rows_owned : Owned → List Row
rows_owned (ByRow rows) = rows_of rows.items
rows_owned (ByColumn columns) = columns
rows_owned (ByPosition rows) = rows

-- these rows, whichever way they are kept
abbrev pub JoinedOr : List Row → Result (List Row) (List Row) → Type 0
JoinedOr rows (Ok joined) = joined ≡ rows
JoinedOr rows (Err own) = own ≡ rows
