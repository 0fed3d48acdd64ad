-- The places of the values of a column that is stored in another table.
use Rattle.std.specs.Prelude.{◌≡◌, ℕ, ◌<◌, List, Option, None, Some, IfSome, length, slice_index_or}
use Rattle.wd_value.specs.Rows.{Row, column_of, row_at}
use Rattle.wd_refute.specs.Numbers.{place_in}
use Rattle.wd_refute.specs.declared.places.Places.{Places}
use Rattle.wd_refute.specs.declared.stored.StoredPlaces.{StoredPlaces}

-- where a row's value has a position in the table, the place found there is that of the row's value
abbrev pub ArePlaces : Places → List Row → ℕ → StoredPlaces → Type 0
ArePlaces column rows c s = (p : ℕ) → p < length rows → slice_index_or s.positions.now p 0 < length s.places.items
    → slice_index_or s.places.items (slice_index_or s.positions.now p 0) None ≡ place_in column (column_of (row_at rows p) c)

-- for each column, where they are found
abbrev pub AreAllPlaces : List Places → List Row → List (Option StoredPlaces) → Type 0
AreAllPlaces columns rows all = (c : ℕ) (column : Places) → c < length columns → IfSome (slice_index_or all c None) (ArePlaces (slice_index_or columns c column) rows c)

-- it is found among those of a stored column, at the row's position in the table
abbrev pub IsFound : List (Option StoredPlaces) → ℕ → ℕ → Option ℕ → Type 0
IsFound all c p place = (s : StoredPlaces) × (slice_index_or all c None ≡ Some s) × (slice_index_or s.positions.now p 0 < length s.places.items) × (place ≡ slice_index_or s.places.items (slice_index_or s.positions.now p 0) None)
