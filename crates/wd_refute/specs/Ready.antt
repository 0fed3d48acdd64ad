-- Rows in a total order, and the sorted positions of an outcome's rows.
use Rattle.std.specs.Prelude.{ℕ, false, List, length, Ok, Err, IsPermutation, IsSorted}
use Rattle.std.specs.declared.cmp.Ordering.{Ordering}
use Rattle.std.specs.Cmp.Lexicographic.{slice_cmp}
use Rattle.wd_value.specs.declared.order.SortKey.{SortKey}
use Rattle.wd_value.specs.Bags.{positions}
use Rattle.wd_value.specs.Order.{compare}
use Rattle.wd_value.specs.Rows.{Row, row_at}
use Rattle.wd_plan.specs.Outcomes.{RowsOrFault}

-- the order of the values in a row; any total order would do
abbrev pub ascending : SortKey
ascending = record { desc = false; nulls_first = false }

-- the first values that differ decide, or else the lengths
abbrev pub compare_rows : Row → Row → Ordering
compare_rows = slice_cmp (compare ascending)

-- the order of positions by their rows
abbrev pub compare_rows_at : List Row → ℕ → ℕ → Ordering
compare_rows_at rows p q = compare_rows (row_at rows p) (row_at rows q)

-- each position of the rows once, sorted by the rows
pub record IsRowSort (rows : List Row) (order : List ℕ) : Type 0 where
  pub each_once : IsPermutation (positions (length rows)) order
  pub sorted : IsSorted (compare_rows_at rows) order

-- the order of an outcome that is rows; any order for a fault
abbrev pub IsReady : RowsOrFault → List ℕ → Type 0
IsReady (Ok rows) order = IsRowSort rows order
IsReady (Err fault) order = Unit {0}
