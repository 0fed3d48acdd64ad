-- What becomes of both sides of pairs.
use Rattle.std.specs.Prelude.{◌≡◌, List, Result, Ok, Err}
use Rattle.wd_value.specs.Rows.{Instance, Row}
use Rattle.wd_joined.specs.declared.pairs.Pair.{Pair}
use Rattle.wd_joined.specs.Pairs.{rows_paired}
use Rattle.wd_nodes.specs.declared.sides.Sides.{Sides}
use Rattle.wd_nodes.specs.declared.sides.Sides.TheVariants.{Joined, Apart}
use Rattle.wd_nodes.specs.declared.stored.StoredRows.{StoredRows}
use Rattle.wd_nodes.specs.Relation.{stored_rows_of}

-- the rows of the pairs, or the same two sides
abbrev pub AreSides : Instance → StoredRows → StoredRows → List Pair → Sides → Type 0
AreSides instance left right pairs (Joined rows) = rows ≡ rows_paired (stored_rows_of instance left) (stored_rows_of instance right) pairs
AreSides instance left right pairs (Apart first second) = (stored_rows_of instance first ≡ stored_rows_of instance left) × (stored_rows_of instance second ≡ stored_rows_of instance right)

-- the same rows, as rows of their own or as they are
abbrev pub OwnOr : Instance → StoredRows → Result (List Row) StoredRows → Type 0
OwnOr instance side (Ok rows) = rows ≡ stored_rows_of instance side
OwnOr instance side (Err same) = stored_rows_of instance same ≡ stored_rows_of instance side
