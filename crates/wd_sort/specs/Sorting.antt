-- Rows in the order of columns, and the stable sort of their positions.
use Rattle.std.specs.Prelude.{ℕ, List, length, IsPermutation, IsSorted}
use Rattle.std.specs.List.Sorted.{IsStable}
use Rattle.std.specs.declared.cmp.Ordering.{Ordering}
use Rattle.std.specs.Ordering.{nat_cmp, ordering_then}
use Rattle.wd_value.specs.Bags.{positions}
use Rattle.wd_value.specs.Keys.{compare_keys}
use Rattle.wd_value.specs.Rows.{Row, row_at}
use Rattle.wd_value.specs.declared.order.SortColumn.{SortColumn}

-- positions compare by their rows, and where these tie by their own order
abbrev pub compare_positions : List SortColumn → List Row → ℕ → ℕ → Ordering
compare_positions columns rows p q = ordering_then (compare_keys columns (row_at rows p) (row_at rows q)) (nat_cmp p q)

-- each position of the rows once, in the order of the columns and, where rows tie, of the positions
pub record IsSortOf (columns : List SortColumn) (rows : List Row) (order : List ℕ) : Type 0 where
  pub each_once : IsPermutation (positions (length rows)) order
  pub sorted : IsSorted (compare_positions columns rows) order

-- positions compare by their rows only
abbrev pub compare_rows_at : List SortColumn → List Row → ℕ → ℕ → Ordering
compare_rows_at columns rows p q = compare_keys columns (row_at rows p) (row_at rows q)

-- the stable sort of given positions: a permutation of them in the order of the columns, in which positions whose rows tie on all columns
-- keep their order
pub record IsStableSortOf (columns : List SortColumn) (rows : List Row) (given order : List ℕ) : Type 0 where
  pub rearranged : IsPermutation given order
  pub sorted : IsSorted (compare_rows_at columns rows) order
  pub stable : IsStable (compare_rows_at columns rows) given order
