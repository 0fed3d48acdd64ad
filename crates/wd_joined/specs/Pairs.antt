-- Pairs of a left and a right row by their positions.
use Rattle.std.specs.Prelude.{ℕ, ◌<◌, List, ◌++◌, map, All}
use Rattle.wd_value.specs.Rows.{Row, row_at}
use Rattle.wd_joined.specs.declared.pairs.Pair.{Pair}

-- the values of both rows of a pair, the left one's first
abbrev pub row_paired : List Row → List Row → Pair → Row
row_paired left right pair = row_at left pair.left ++ row_at right pair.right

abbrev pub rows_paired : List Row → List Row → List Pair → List Row
rows_paired left right pairs = map (row_paired left right) pairs

-- each is a pair of so many left rows and so many right ones
abbrev pub AreOf : ℕ → ℕ → List Pair → Type 0
AreOf left right pairs = All (λ pair. (pair.left < left) × (pair.right < right)) pairs
