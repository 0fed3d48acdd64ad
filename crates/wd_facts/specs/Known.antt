-- What the code keeps of a test of columns.
use Rattle.std.specs.Prelude.{◌≡◌, ℕ, ◌<◌, Bool, false, List, length, get_or}

-- the answers of a test at the first columns
abbrev pub IsKnown : (ℕ → Bool) → List Bool → Type 0
IsKnown test known = (c : ℕ) → c < length known → get_or known c false ≡ test c
