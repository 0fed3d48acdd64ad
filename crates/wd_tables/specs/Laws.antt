-- Laws of the data of a table, over the definitions alone.
use Rattle.std.specs.Prelude.{◌≡◌, ℕ, List}
use Rattle.wd_value.specs.Rows.{Row}
use Rattle.wd_schema.specs.Tables.{TableRule}
use Rattle.wd_schema.specs.Meets.{MeetsTable}
use Rattle.wd_schema.specs.WellFormed.{IsWellFormedTable}
use Rattle.wd_tables.specs.Causes.{HasCause}
use Rattle.wd_tables.specs.Data.{HoldsRows}
use Rattle.wd_tables.specs.declared.error.DataError.{DataError}
use Rattle.wd_tables.specs.declared.error.DataError.TheVariants.{OutOfMemory}

-- A text has at most one refusal as the data of a table; where memory runs out the text need not have a cause.
abbrev pub HasOneRefusal : Type 0
HasOneRefusal = (table : TableRule) (text : List ℕ) (first second : DataError) → IsWellFormedTable table → HasCause table text first → HasCause table text second
    → ¬ (first ≡ OutOfMemory) → ¬ (second ≡ OutOfMemory) → first ≡ second

-- A text that holds rows which meet the table has no refusal.
abbrev pub HasRowsOrRefusal : Type 0
HasRowsOrRefusal = (table : TableRule) (text : List ℕ) (rows : List Row) (refusal : DataError) → HoldsRows table text rows → MeetsTable table rows → HasCause table text refusal → refusal ≡ OutOfMemory
