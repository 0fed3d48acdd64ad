-- Why a header, a field or a record is refused, in any text.
use Rattle.std.specs.Prelude.{◌≡◌, ◌⊎◌, ◌<◌, ℕ, true, List, Some, None, All, Any, ⊤}
use Rattle.wd_value.specs.declared.value.Value.TheVariants.{Null}
use Rattle.wd_schema.specs.declared.table.Column.{Column}
use Rattle.wd_tables.specs.Fields.{field_value}
use Rattle.wd_tables.specs.Data.{NamesEachOnce, field_place, value_in}
use Rattle.wd_tables.specs.declared.error.DataError.{DataError}
use Rattle.wd_tables.specs.declared.error.DataError.TheVariants.{Header, Value, Null as NullValue, OutOfMemory}

-- why a header is refused
abbrev pub RefusesHeader : List Column → List (List ℕ) → DataError → Type 0
RefusesHeader columns header Header = ¬ (NamesEachOnce columns header)
RefusesHeader columns header OutOfMemory = ⊤
RefusesHeader columns header _ = ⊥

-- why a field is refused in a column
abbrev pub RefusesField : Column → List ℕ → ℕ → DataError → Type 0
RefusesField column bytes number (Value n) = (n ≡ number) × (field_value column bytes ≡ None)
RefusesField column bytes number (NullValue n) = (n ≡ number) × (column.not_null ≡ true) × (field_value column bytes ≡ Some Null)
RefusesField column bytes number OutOfMemory = ⊤
RefusesField column bytes number _ = ⊥

-- the field of a record under the column's name is no value of the column
abbrev pub LacksValue : List (List ℕ) → List (List ℕ) → Column → Type 0
LacksValue header fields column = value_in header fields column ≡ None

-- the field is NULL, and the column is NOT NULL
abbrev pub HasNull : List (List ℕ) → List (List ℕ) → Column → Type 0
HasNull header fields column = (column.not_null ≡ true) × (value_in header fields column ≡ Some Null)

-- the field is refused in the column
abbrev pub IsRefusedIn : List (List ℕ) → List (List ℕ) → Column → Type 0
IsRefusedIn header fields column = LacksValue header fields column ⊎ HasNull header fields column

-- no field before the column's own in the record is refused
abbrev pub IsFirstIn : List Column → List (List ℕ) → List (List ℕ) → Column → Type 0
IsFirstIn columns header fields column = All (λ other. field_place header other.name < field_place header column.name → ¬ (IsRefusedIn header fields other)) columns

-- why a record is refused: for the first of its refused fields
abbrev pub RefusesRecord : List Column → List (List ℕ) → List (List ℕ) → ℕ → DataError → Type 0
RefusesRecord columns header fields number (Value n) = (n ≡ number) × Any (λ column. LacksValue header fields column × IsFirstIn columns header fields column) columns
RefusesRecord columns header fields number (NullValue n) = (n ≡ number) × Any (λ column. HasNull header fields column × IsFirstIn columns header fields column) columns
RefusesRecord columns header fields number OutOfMemory = ⊤
RefusesRecord columns header fields number _ = ⊥
