-- Numbers for the rows, column by column.
use Rattle.std.specs.Prelude.{◌≡◌, ℕ, ◌<◌, ◌∷◌, [], List, get_or, length}
use Rattle.wd_value.specs.Rows.{Row}
use Rattle.wd_sort.specs.declared.coding.Coding.{Coding}
use Rattle.wd_sort.specs.Numbers.{AreNumbersBy}

-- for each of the first `columns` columns numbers that are equal exactly where the column's values are the same
pub record AreNumbersOfEach (columns : ℕ) (rows : List Row) (numbers : List Coding) : Type 0 where
  pub long : length numbers ≡ columns
  pub each : (column : ℕ) (d : Coding) → column < columns → AreNumbersBy (column ∷ []) rows (get_or numbers column d).bound (get_or numbers column d).codes.items
