-- Rows along columns: at each position the value that each column has there.
use Rattle.std.specs.Prelude.{◌≡◌, ℕ, ◌-◌, List, [], ◌∷◌, ◌++◌, map, length, slice_index_or, All}
use Rattle.wd_value.specs.declared.value.Value.{Value}
use Rattle.wd_value.specs.declared.value.Value.TheVariants.{Null}
use Rattle.wd_value.specs.Bags.{positions}
use Rattle.wd_value.specs.Rows.{Row, column_of, row_at}

-- a column is the list of its values, and past its last one there is NULL; the row at a position
abbrev pub row_along : List Row → ℕ → Row
row_along columns p = map (λ column. slice_index_or column p Null) columns

-- the rows at the first n positions
abbrev pub rows_along : List Row → ℕ → List Row
rows_along columns n = map (row_along columns) (positions n)

-- the values of a column at these positions
abbrev pub values_at : Row → List ℕ → Row
values_at column ps = map (λ p. slice_index_or column p Null) ps

-- each row with the value beside it after its own, and NULL where there is none
abbrev pub with_values : List Row → List Value → List Row
with_values rows values = map (λ p. row_at rows p ++ slice_index_or values p Null ∷ []) (positions (length rows))

-- the values that stand so many places before the end of each row
abbrev pub values_before : List Row → ℕ → List Value
values_before rows after = map (λ row. column_of row (length row - after)) rows

-- each column has n values
abbrev pub AreLong : ℕ → List Row → Type 0
AreLong n columns = All (λ column. length column ≡ n) columns

-- each column with a further value, as far as there are values
abbrev pub with_row : List Row → Row → List Row
with_row [] row = []
with_row (column ∷ columns) [] = column ∷ columns
with_row (column ∷ columns) (value ∷ values) = (column ++ value ∷ []) ∷ with_row columns values
