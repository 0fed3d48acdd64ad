-- Columns that are marked by their numbers.
use Rattle.std.specs.Prelude.{◌≡◌, ℕ, ◌<◌, Bool, false, ◌||◌, List, [], map, length, slice_index_or}
use Rattle.std.specs.declared.alloc.Global.{Global}
use Rattle.std.specs.declared.vec.Vec.{Vec}

-- whether a column is marked; none is past the last
abbrev pub is_marked : List Bool → ℕ → Bool
is_marked marks c = slice_index_or marks c false

-- the marks of a table, by its number; none past the last table
abbrev pub marks_of : List (Vec Bool Global) → ℕ → List Bool
marks_of tables table = slice_index_or (map (λ columns. columns.items) tables) table []

-- marks for as many columns, set where they were set or where the test says so
pub record MarksMore (old : List Bool) (more : ℕ → Bool) (new : List Bool) : Type 0 where
  pub long : length new ≡ length old
  pub each : (c : ℕ) → c < length old → is_marked new c ≡ (is_marked old c || more c)

-- the marks of each table, by a test of a table and a column
abbrev pub MarkMore : List (Vec Bool Global) → (ℕ → ℕ → Bool) → List (Vec Bool Global) → Type 0
MarkMore old more new = (table : ℕ) → MarksMore (marks_of old table) (more table) (marks_of new table)
