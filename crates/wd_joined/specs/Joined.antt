-- Rows joined of rows of several tables, of which only their positions in each table are known.
use Rattle.std.specs.Prelude.{◌≡◌, ℕ, ◌+◌, ◌<◌, List, [], ◌++◌, Option, Some, None, map, length, slice_index_or, All}
use Rattle.std.specs.Option.{ForSome}
use Rattle.wd_value.specs.declared.value.Value.{Value}
use Rattle.wd_value.specs.declared.value.Value.TheVariants.{Null}
use Rattle.wd_value.specs.Bags.{positions as all_positions}
use Rattle.wd_value.specs.Rows.{Row, column_of, row_at, table_at}
use Rattle.wd_joined.specs.declared.origin.Origin.{Origin}
use Rattle.wd_joined.specs.declared.pairs.Pair.{Pair}

-- for each table the positions of its rows: that in the joined row at a position
abbrev pub position_in : List (List ℕ) → ℕ → ℕ → ℕ
position_in positions table p = slice_index_or (slice_index_or positions table []) p 0

-- the value of the joined row at a position in a column that stands there; one that stands nowhere is NULL
abbrev pub value_in : List (List Row) → List (List ℕ) → ℕ → Option Origin → Value
value_in tables positions p None = Null
value_in tables positions p (Some origin) = column_of (row_at (table_at tables origin.table) (position_in positions origin.table p)) origin.column

abbrev pub row_joined : List (List Row) → List (List ℕ) → List (Option Origin) → ℕ → Row
row_joined tables positions origins p = map (value_in tables positions p) origins

-- so many joined rows, with the columns that stand there
abbrev pub rows_joined : List (List Row) → List (List ℕ) → List (Option Origin) → ℕ → List Row
rows_joined tables positions origins n = map (row_joined tables positions origins) (all_positions n)

-- the positions at these places of a list
abbrev pub positions_at : List ℕ → List ℕ → List ℕ
positions_at places list = map (λ k. slice_index_or list k 0) places

-- the positions of the rows of pairs in the tables of either side
abbrev pub positions_of_pairs : List (List ℕ) → List (List ℕ) → List Pair → List (List ℕ)
positions_of_pairs left right pairs = map (positions_at (map (λ pair. pair.left) pairs)) left ++ map (positions_at (map (λ pair. pair.right) pairs)) right

-- the same column behind so many further tables
abbrev pub behind : ℕ → Option Origin → Option Origin
behind count None = None
behind count (Some origin) = Some (record { table = count + origin.table; column = origin.column })

-- there is a list of positions for each table, and each column stands in one of the tables or nowhere
pub record AreOfTables (tables : List (List Row)) (positions : List (List ℕ)) (origins : List (Option Origin)) : Type 0 where
  pub lists : length positions ≡ length tables
  pub within : All (λ o. ForSome o (λ origin. origin.table < length tables)) origins
