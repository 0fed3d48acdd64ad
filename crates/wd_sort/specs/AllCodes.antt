-- Numbers in place of all rows of a list.
use Rattle.std.specs.Prelude.{◌≡◌, ℕ, ◌<◌, List, length, get_or}
use Rattle.std.specs.Ordering.{nat_cmp}
use Rattle.wd_value.specs.Rows.{Row}
use Rattle.wd_value.specs.declared.order.SortColumn.{SortColumn}
use Rattle.wd_sort.specs.Sorting.{compare_rows_at}

-- the number at each position compares as its row does, and is below a bound
pub record AreCodesOfAll (columns : List SortColumn) (rows : List Row) (bound : ℕ) (codes : List ℕ) : Type 0 where
  pub long : length codes ≡ length rows
  pub below : (p : ℕ) → p < length rows → get_or codes p 0 < bound
  pub alike : (p q : ℕ) → p < length rows → q < length rows → nat_cmp (get_or codes p 0) (get_or codes q 0) ≡ compare_rows_at columns rows p q
