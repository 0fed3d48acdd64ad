-- Rows and lists of rows, and how contracts see those of the code. A position past the last row counts as the row without columns; no
-- plan that fits has such a position.
use Rattle.std.specs.Prelude.{ℕ, Bool, List, [], map, slice_index_or}
use Rattle.std.specs.declared.alloc.Global.{Global}
use Rattle.std.specs.declared.vec.Vec.{Vec}
use lib.Pointwise.{pointwise}
use Rattle.wd_value.specs.declared.value.Value.{Value}
use Rattle.wd_value.specs.declared.value.Value.TheVariants.{Null}
use Rattle.wd_value.specs.Values.{same}

-- a row: the list of its values
abbrev pub Row : Type 0
Row = List Value

-- an instance: a list of rows for each table of a schema, in order of declaration
abbrev pub Instance : Type 0
Instance = List (List Row)

-- the rows that a list of the code shows
abbrev pub rows_of : List (Vec Value Global) → List Row
rows_of rows = map (λ r. r.items) rows

-- the instance that a list of tables of the code shows
abbrev pub instance_of : List (Vec (Vec Value Global) Global) → Instance
instance_of tables = map (λ t. rows_of t.items) tables

-- the value in a column, and NULL past the last column
abbrev pub column_of : Row → ℕ → Value
column_of row c = slice_index_or row c Null

-- the values in these columns
abbrev pub columns_of : List ℕ → Row → List Value
columns_of columns row = map (column_of row) columns

-- not distinct in any column
abbrev pub same_row : Row → Row → Bool
same_row = pointwise same

-- the row at a position, and the empty row past the last
abbrev pub row_at : List Row → ℕ → Row
row_at rows p = slice_index_or rows p []

-- the rows at these positions, in their order
abbrev pub rows_at : List Row → List ℕ → List Row
rows_at rows positions = map (row_at rows) positions

-- the rows of a table, and none past the last table
abbrev pub table_at : Instance → ℕ → List Row
table_at instance t = slice_index_or instance t []
