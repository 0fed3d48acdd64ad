-- What the tables of each schema text satisfy (SQL:2003 part 2: table and unique constraint definitions; the limits are this project's
-- choice).
use Rattle.std.specs.Prelude.{◌≡◌, ◌≢◌, ℕ, ◌<◌, ◌≤◌, List, length, count_by, All, AllPairs, IsTrue, Some, slice_get}
use Rattle.wd_schema.specs.declared.table.Column.{Column}
use Rattle.wd_schema.specs.Tables.{KeyRule, TableRule}

-- the column of that number is NOT NULL
abbrev pub IsNotNull : List Column → ℕ → Type 0
IsNotNull columns number = (column : Column) → slice_get columns number ≡ Some column → IsTrue column.not_null

-- a key names columns of the table, each once, and those of a primary key are NOT NULL
pub record IsKeyOf (columns : List Column) (key : KeyRule) : Type 0 where
  pub within : All (λ number. number < length columns) key.columns
  pub once : AllPairs (λ a b. a ≢ b) key.columns
  pub not_null : IsTrue key.primary → All (IsNotNull columns) key.columns

-- at most 256 columns, whose names differ, and 64 keys over them, at most one of them primary
pub record IsWellFormedTable (table : TableRule) : Type 0 where
  pub few_columns : length table.columns ≤ 256
  pub few_keys : length table.keys ≤ 64
  pub names : AllPairs (λ a b. a.name ≢ b.name) table.columns
  pub keys : All (IsKeyOf table.columns) table.keys
  pub one_primary : count_by (λ key. key.primary) table.keys ≤ 1

-- at most 64 tables, whose names differ
pub record IsWellFormed (tables : List TableRule) : Type 0 where
  pub few : length tables ≤ 64
  pub names : AllPairs (λ a b. a.name ≢ b.name) tables
  pub each : All IsWellFormedTable tables
