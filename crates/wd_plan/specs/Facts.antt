-- Facts that hold in a list of rows: functional dependencies over positions (SQL, functional dependencies).
use Rattle.std.specs.Prelude.{◌≡◌, ℕ, ◌<◌, false, List, length}
use Rattle.std.specs.List.{AllByRecursion, list_any}
use Rattle.wd_value.specs.Rows.{Row, column_of, columns_of, row_at}
use Rattle.wd_plan.specs.Expressions.{is_null}

-- columns X determine column c: two positions with equal values on X have equal values in c
abbrev pub Determines : List Row → List ℕ → ℕ → Type 0
Determines rows X c = (p q : ℕ) → p < length rows → q < length rows → columns_of X (row_at rows p) ≡ columns_of X (row_at rows q) → column_of (row_at rows p) c ≡ column_of (row_at rows q) c

-- columns X determine the row: two positions with equal values on X are the same position
abbrev pub DeterminesRow : List Row → List ℕ → Type 0
DeterminesRow rows X = (p q : ℕ) → p < length rows → q < length rows → columns_of X (row_at rows p) ≡ columns_of X (row_at rows q) → p ≡ q

-- column c is not null
abbrev pub IsNotNullIn : List Row → ℕ → Type 0
IsNotNullIn rows c = (p : ℕ) → p < length rows → is_null (column_of (row_at rows p) c) ≡ false

-- X is a nullable key: two positions with equal values on X and no NULL among these are the same position
abbrev pub IsNullableKey : List Row → List ℕ → Type 0
IsNullableKey rows X = (p q : ℕ) → p < length rows → q < length rows → columns_of X (row_at rows p) ≡ columns_of X (row_at rows q) → list_any is_null (columns_of X (row_at rows p)) ≡ false → p ≡ q

-- columns X determine each of the first `width` columns
abbrev pub DeterminesAll : List Row → ℕ → List ℕ → Type 0
DeterminesAll rows width X = (c : ℕ) → c < width → Determines rows X c

abbrev pub HasWidth : ℕ → List Row → Type 0
HasWidth width rows = AllByRecursion (λ (r : Row). length r ≡ width) rows
