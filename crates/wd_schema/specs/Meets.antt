-- When the rows of a table meet what its declaration requires (SQL:2003 part 2: column and unique constraints).
use Rattle.std.specs.Prelude.{◌≡◌, ℕ, ◌^◌, ◌-◌, ◌&&◌, Bool, true, false, not, List, [], ◌∷◌, All, AllPairs, length, slice_get, Some, ℤ, pos, negsuc, int_le}
use Rattle.std.specs.List.{list_any, list_all}
use Rattle.wd_value.specs.declared.value.Value.{Value}
use Rattle.wd_value.specs.declared.value.Value.TheVariants.{Null, Int, Text, Bool as Truth}
use Rattle.wd_value.specs.declared.value.ColumnType.{ColumnType}
use Rattle.wd_value.specs.declared.value.ColumnType.TheVariants.{SmallInt, Integer, BigInt, Text as TextType, Boolean}
use Rattle.wd_value.specs.Rows.{Row, Instance, columns_of, same_row, table_at}
use Rattle.wd_schema.specs.declared.table.Column.{Column}
use Rattle.wd_schema.specs.Tables.{KeyRule, TableRule}

-- a whole number that bits + 1 bits hold, one of them for the sign
abbrev pub is_signed : ℕ → ℤ → Bool
is_signed bits n = int_le (negsuc (2 ^ bits - 1)) n && int_le n (pos (2 ^ bits - 1))

-- NULL, or a value of the type and within its range
abbrev pub is_of_type : ColumnType → Value → Bool
is_of_type kind Null = true
is_of_type SmallInt (Int n) = is_signed 15 n
is_of_type Integer (Int n) = is_signed 31 n
is_of_type BigInt (Int n) = is_signed 63 n
is_of_type TextType (Text bytes) = true
is_of_type Boolean (Truth b) = true
is_of_type kind v = false

abbrev pub is_null : Value → Bool
is_null Null = true
is_null v = false

-- a column may hold the value
abbrev pub may_hold : Column → Value → Bool
may_hold column v = is_of_type column.kind v && not (column.not_null && is_null v)

-- a value for each column, which the column may hold
abbrev pub fits_columns : List Column → Row → Bool
fits_columns [] [] = true
fits_columns (column ∷ columns) (v ∷ values) = may_hold column v && fits_columns columns values
fits_columns columns values = false

-- the key forbids two rows in one table: they are equal on its columns, and no NULL is among these where NULLs are distinct
abbrev pub violates : KeyRule → Row → Row → Bool
violates key a b = same_row (columns_of key.columns a) (columns_of key.columns b) && not (key.nulls_distinct && list_any is_null (columns_of key.columns a))

-- no two positions violate the key
abbrev pub KeepsKey : List Row → KeyRule → Type 0
KeepsKey rows key = AllPairs (λ a b. violates key a b ≡ false) rows

-- the rows meet the table
pub record MeetsTable (table : TableRule) (rows : List Row) : Type 0 where
  pub values : All (λ row. fits_columns table.columns row ≡ true) rows
  pub keys : All (KeepsKey rows) table.keys

-- the list of rows at each place meets the table at that place
abbrev pub EachMeets : List TableRule → Instance → Type 0
EachMeets schema instance = (t : ℕ) (table : TableRule) → slice_get schema t ≡ Some table → MeetsTable table (table_at instance t)

-- the instance meets the schema: for each table, in order of declaration, a list of rows that meets it, and no further list
pub record Meets (schema : List TableRule) (instance : Instance) : Type 0 where
  pub lists : length instance ≡ length schema
  pub tables : EachMeets schema instance

-- the test that decides whether the rows keep a key
abbrev pub is_kept : List Row → KeyRule → Bool
is_kept [] key = true
is_kept (row ∷ rows) key = not (list_any (violates key row) rows) && is_kept rows key

-- the test that decides whether the rows meet a table
abbrev pub is_met : TableRule → List Row → Bool
is_met table rows = list_all (fits_columns table.columns) rows && list_all (is_kept rows) table.keys
