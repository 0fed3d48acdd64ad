-- The order of rows under a list of sort keys.
use Rattle.std.specs.Prelude.{ℕ, false, List, [], ◌∷◌, map}
use Rattle.std.specs.declared.cmp.Ordering.{Ordering}
use Rattle.std.specs.declared.cmp.Ordering.TheVariants.{Equal}
use Rattle.std.specs.Ordering.{ordering_then}
use Rattle.wd_value.specs.Order.{compare}
use Rattle.wd_value.specs.Rows.{Row, column_of}
use Rattle.wd_value.specs.declared.order.SortColumn.{SortColumn}

-- two rows compare as on the first key on which they differ
abbrev pub compare_keys : List SortColumn → Row → Row → Ordering
compare_keys [] a b = Equal
compare_keys (item ∷ items) a b = ordering_then (compare item.key (column_of a item.column) (column_of b item.column)) (compare_keys items a b)

-- the columns of a list of sort keys
abbrev pub key_columns : List SortColumn → List ℕ
key_columns items = map (λ item. item.column) items

-- the sort key of a column, ascending with NULL last
abbrev pub ascending : ℕ → SortColumn
ascending column = record { column = column; key = record { desc = false; nulls_first = false } }
