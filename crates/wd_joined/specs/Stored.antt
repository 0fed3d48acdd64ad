-- A column of rows as it is stored.
use Rattle.std.specs.Prelude.{◌≡◌, ℕ, ◌<◌, List, length, slice_index_or}
use Rattle.wd_value.specs.declared.value.Value.{Value}
use Rattle.wd_value.specs.declared.value.Value.TheVariants.{Null}
use Rattle.wd_value.specs.Rows.{Row, column_of, row_at}
use Rattle.wd_joined.specs.declared.origin.StoredColumn.{StoredColumn}
use Rattle.wd_joined.specs.declared.shared.SharedColumn.{SharedColumn}

-- the value for the row at a position
abbrev pub stored_value : StoredColumn → ℕ → Value
stored_value s p = column_of (row_at s.table.now (slice_index_or s.positions.now p 0)) s.column

-- its values are those of a column of these rows
abbrev pub Stores : List Row → ℕ → StoredColumn → Type 0
Stores rows column s = (p : ℕ) → p < length rows → stored_value s p ≡ column_of (row_at rows p) column

-- the value of a shared column for the row at a position
abbrev pub shared_value : SharedColumn → ℕ → Value
shared_value s p = column_of (row_at s.table (slice_index_or s.positions p 0)) s.column

-- a shared column has these values for the first n rows, and NULL where there is none
abbrev pub HasValues : ℕ → List Value → SharedColumn → Type 0
HasValues n values s = (p : ℕ) → p < n → shared_value s p ≡ slice_index_or values p Null
