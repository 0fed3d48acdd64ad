-- Positions of rows in the order of a key, and neighbours that violate it.
use Rattle.std.specs.Prelude.{◌≡◌, ◌+◌, ◌<◌, ℕ, true, false, List, map, length, Option, Some, None, if◌then◌else◌, nat_lt, slice_index_or}
use Rattle.std.specs.Ordering.{is_lt}
use Rattle.wd_value.specs.declared.order.SortKey.{SortKey}
use Rattle.wd_value.specs.Rows.{Row, row_at}
use Rattle.wd_value.specs.declared.order.SortColumn.{SortColumn}
use Rattle.wd_sort.specs.Sorting.{compare_rows_at}
use Rattle.wd_schema.specs.Tables.{KeyRule}
use Rattle.wd_schema.specs.Meets.{violates}

-- a key's columns are sorted ascending, with NULL last
abbrev pub ascending : SortKey
ascending = record { desc = false; nulls_first = false }

abbrev pub sort_columns : List ℕ → List SortColumn
sort_columns columns = map (λ c. record { column = c; key = ascending }) columns

-- the rows are in the order of the columns; those that tie may appear in any order
abbrev pub AreInOrder : List SortColumn → List Row → Type 0
AreInOrder columns rows = (k : ℕ) → k + 1 < length rows → is_lt (compare_rows_at columns rows (k + 1) k) ≡ false

-- the row at position q comes in the order directly after one with which it violates the key
abbrev pub ViolatesBefore : KeyRule → List Row → List ℕ → ℕ → Type 0
ViolatesBefore key rows order q =
    (i : ℕ) × (i + 1 < length order) × (slice_index_or order (i + 1) 0 ≡ q) × (violates key (row_at rows (slice_index_or order i 0)) (row_at rows q) ≡ true)

-- the lesser of two numbers, where there are two
abbrev pub least : Option ℕ → Option ℕ → Option ℕ
least None o = o
least (Some m) None = Some m
least (Some m) (Some n) = if nat_lt m n then Some m else Some n
