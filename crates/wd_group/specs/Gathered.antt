-- Rows that are gathered one after another, as far as they are needed.
use Rattle.std.specs.Prelude.{◌≡◌, ℕ, ◌+◌, ◌++◌, IfOk, List, Result, length, take}
use Rattle.wd_value.specs.declared.value.Fault.{Fault}
use Rattle.wd_value.specs.Rows.{Row, rows_of}
use Rattle.wd_column_store.specs.Along.{AreLong, rows_along}
use Rattle.wd_plan.specs.Faults.{least_fault, values_among}
use Rattle.wd_group.specs.declared.gathered.Gathered.{Gathered}

-- a row of so many values, or a fault
abbrev pub HasWidth : ℕ → Result Row Fault → Type 0
HasWidth width r = IfOk r (λ row. length row ≡ width)

-- the first rows among these results, one more than `most` of them, in so many columns, and the least fault among all
pub record AreFirst (width most : ℕ) (results : List (Result Row Fault)) (gathered : Gathered) : Type 0 where
  pub rows : rows_along (rows_of gathered.columns.items) gathered.count ≡ take (most + 1) (values_among results)
  pub long : AreLong gathered.count (rows_of gathered.columns.items)
  pub wide : length (rows_of gathered.columns.items) ≡ width
  pub fault : gathered.fault ≡ least_fault results

-- these results are gathered after the others
abbrev pub AreAdded : ℕ → ℕ → List (Result Row Fault) → Gathered → Gathered → Type 0
AreAdded width most added old new = (results : List (Result Row Fault)) → AreFirst width most results old → AreFirst width most (results ++ added) new
