use Rattle.std.proofs.Common.{◌≡◌, ◌+◌, ℕ, List, [], length}
use Rattle.wd_value.specs.Rows.{rows_of}
use Rattle.wd_column_store.specs.Along.{AreLong, rows_along}
use Rattle.wd_tables.specs.Reading.{HasPlaces, HasRead, HoldsFirst}
use Rattle.wd_tables.proofs.data.read_data.Given as goal

abbrev pub invariant-loop-before : goal.invariant-loop-before
invariant-loop-before l =
    (text : List ℕ) → HasRead text 1 l.fn.reader → HasPlaces l.fn.table.columns.items text l.fn.places → HoldsFirst l.fn.table.columns.items text 0 []
    → HasRead text (l.before + 1) l.reader × HoldsFirst l.fn.table.columns.items text l.before (rows_along (rows_of l.columns.items) l.before)
    × AreLong l.before (rows_of l.columns.items) × (length (rows_of l.columns.items) ≡ length l.fn.table.columns.items)
