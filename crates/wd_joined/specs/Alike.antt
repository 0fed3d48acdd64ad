-- Rows that agree on some columns.
use Rattle.std.specs.Prelude.{◌≡◌, ℕ, Bool, true, List, get_or, length}
use Rattle.std.specs.List.{AllZip}
use Rattle.wd_value.specs.Rows.{Row, column_of}

-- as long as each other, with the same value in each column that is marked or past the marks
abbrev pub IsAlikeIn : List Bool → Row → Row → Type 0
IsAlikeIn marks row other = (length row ≡ length other) × ((c : ℕ) → get_or marks c true ≡ true → column_of row c ≡ column_of other c)

-- as many rows, each like the other at its place
abbrev pub AreAlikeIn : List Bool → List Row → List Row → Type 0
AreAlikeIn marks rows others = AllZip (IsAlikeIn marks) rows others
