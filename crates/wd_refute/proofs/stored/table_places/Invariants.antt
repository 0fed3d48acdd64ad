use Rattle.std.proofs.Common.{◌≡◌, ◌<◌, None, length, slice_index_or, ℕ}
use Rattle.wd_refute.specs.Numbers.{place_in}
use Rattle.wd_value.specs.Rows.{column_of, row_at}
use Rattle.wd_refute.proofs.stored.table_places.Given as goal

abbrev pub invariant-loop-position : goal.invariant-loop-position
invariant-loop-position l =
    (length l.found.items ≡ l.position)
    × ((q : ℕ) → q < l.position → slice_index_or l.found.items q None ≡ place_in l.places (column_of (row_at l.table q) l.column))
