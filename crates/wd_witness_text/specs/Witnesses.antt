-- Witnesses as pure data, how contracts see those of the code, and when one is of a schema.
use Rattle.std.specs.Prelude.{◌≡◌, ℕ, ◌≤◌, List, [], map, find, length, All, Option, Some, None, string_bytes, String, Vec, FitsSigned, ⊤}
use Rattle.std.specs.Int.{w64}
use Rattle.std.specs.Str.{bytes_eq}
use Rattle.std.specs.declared.alloc.Global.{Global}
use Rattle.wd_value.specs.declared.value.Value.{Value}
use Rattle.wd_value.specs.declared.value.Value.TheVariants.{Null, Int, Text, Bool as Truth}
use Rattle.wd_value.specs.Rows.{Row, Instance, rows_of}
use Rattle.wd_schema.specs.Schemas.{table_named}
use Rattle.wd_schema.specs.Tables.{TableRule}
use Rattle.wd_witness_text.specs.declared.witness.Witness.{Witness}

-- the rows of the table of a name
pub record TableRows : Type 0 where
  pub name : List ℕ
  pub rows : List Row

-- the rows of tables, and two choices of orderings over them
pub record WitnessRecord : Type 0 where
  pub tables : List TableRows
  pub first : List (List ℕ)
  pub second : List (List ℕ)

-- the rows of a table of the code, under its name
abbrev pub table_rows : String Global × Vec (Vec Value Global) Global → TableRows
table_rows entry = record { name = string_bytes entry.0; rows = rows_of entry.1.items }

-- the positions of a choice of the code
abbrev pub positions_of : List (Vec ℕ Global) → List (List ℕ)
positions_of orderings = map (λ o. o.items) orderings

-- the witness that a value of the code shows, with its tables in the order of their names' bytes
abbrev pub witness_of : Witness → WitnessRecord
witness_of w = record { tables = map table_rows w.tables.entries; first = positions_of w.first.orderings.items; second = positions_of w.second.orderings.items }

-- a whole number has 64 bits
abbrev pub Fits64 : Value → Type 0
Fits64 Null = ⊤
Fits64 (Int n) = FitsSigned w64 n
Fits64 (Text bytes) = ⊤
Fits64 (Truth b) = ⊤

-- the whole numbers of a witness have 64 bits, as all those of the code do
abbrev pub AllFit64 : WitnessRecord → Type 0
AllFit64 w = All (λ t. All (All Fits64) t.rows) w.tables

-- the schema has a table of the name, with a column for each value of a row, and there are at most 64 rows
pub record IsTableOf (schema : List TableRule) (t : TableRows) : Type 0 where
  pub table : TableRule
  pub known : table_named t.name schema ≡ Some table
  pub few : length t.rows ≤ 64
  pub values : All (λ row. length row ≡ length table.columns) t.rows

-- a witness over tables of the schema
abbrev pub IsOf : List TableRule → WitnessRecord → Type 0
IsOf schema w = All (IsTableOf schema) w.tables

-- ---- the instance of a witness over a schema

abbrev pub rows_in : Option TableRows → List Row
rows_in None = []
rows_in (Some t) = t.rows

-- the rows under a name; none where no table has it
abbrev pub rows_named : List ℕ → List TableRows → List Row
rows_named name tables = rows_in (find (λ t. bytes_eq name t.name) tables)

-- for each table of the schema the rows under its name
abbrev pub instance_under : List TableRule → WitnessRecord → Instance
instance_under schema w = map (λ table. rows_named table.name w.tables) schema
