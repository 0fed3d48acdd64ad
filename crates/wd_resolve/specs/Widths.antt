-- How many tables and columns parts of FROM have.
use Rattle.std.specs.Prelude.{ℕ, Option, Some, None, length}
use Rattle.wd_resolve.specs.declared.part.JoinedTables.{JoinedTables}

-- the tables before the last comma
abbrev pub tables_before : Option JoinedTables → ℕ
tables_before None = 0
tables_before (Some part) = length part.scope.tables.items

-- the columns of the tables before the last comma
abbrev pub columns_before : Option JoinedTables → ℕ
columns_before None = 0
columns_before (Some part) = length part.scope.columns.items
