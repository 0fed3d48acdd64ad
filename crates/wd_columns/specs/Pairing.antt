-- What becomes of two sides whose rows are paired.
use Rattle.std.specs.Prelude.{◌≡◌, List}
use Rattle.wd_value.specs.Rows.{Row}
use Rattle.wd_columns.specs.declared.pairing.Pairing.{Pairing}
use Rattle.wd_columns.specs.declared.pairing.Pairing.TheVariants.{Joined, Apart}
use Rattle.wd_joined.specs.declared.pairs.Pair.{Pair}
use Rattle.wd_joined.specs.Pairs.{rows_paired}

-- the rows of the pairs, or the same two sides
abbrev pub IsPairing : List Row → List Row → List Pair → Pairing → Type 0
IsPairing left right pairs (Joined rows) = rows ≡ rows_paired left right pairs
IsPairing left right pairs (Apart first second) = (first ≡ left) × (second ≡ right)
