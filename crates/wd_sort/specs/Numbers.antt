-- Numbers for rows: different rows have different numbers.
use Rattle.std.specs.Prelude.{◌≡◌, ℕ, ◌<◌, List, length, get_or, nat_eq}
use Rattle.wd_value.specs.Rows.{Row, columns_of, row_at, same_row}

-- a number for each row, below a bound; two are equal exactly where the rows are the same in these columns
pub record AreNumbersBy (columns : List ℕ) (rows : List Row) (bound : ℕ) (numbers : List ℕ) : Type 0 where
  pub long : length numbers ≡ length rows
  pub below : (p : ℕ) → p < length rows → get_or numbers p 0 < bound
  pub alike : (p q : ℕ) → p < length rows → q < length rows → nat_eq (get_or numbers p 0) (get_or numbers q 0) ≡ same_row (columns_of columns (row_at rows p)) (columns_of columns (row_at rows q))
