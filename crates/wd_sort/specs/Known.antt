-- The distinct values that a column is known to have, and their places.
use Rattle.std.specs.Prelude.{◌≡◌, ℕ, ◌<◌, true, false, List, length, get_or, Option, Some}
use Rattle.std.specs.HashMap.{get_by}
use Rattle.std.specs.Ordering.{int_eq}
use Rattle.std.specs.Str.{bytes_eq}
use Rattle.wd_value.specs.Rows.{Row, column_of, row_at}
use Rattle.wd_value.specs.declared.value.Value.{Value}
use Rattle.wd_value.specs.declared.value.Value.TheVariants.{Null, Int, Text, Bool as Truth}
use Rattle.wd_sort.specs.declared.known.Known.{Known}
use Rattle.wd_sort.specs.Ranks.{value_in}

-- a value is at a place
abbrev pub IsAt : Known → ℕ → Value → Type 0
IsAt known place value = (place < length known.values.items) × (value_in known.values.items place ≡ value)

-- the place that is stored for a value: NULL and the truth values have the first places
abbrev pub place_in : Known → Value → Option ℕ
place_in known Null = Some 0
place_in known (Int n) = get_by (int_eq n) known.wholes
place_in known (Text text) = get_by (λ k. bytes_eq text k.now) known.texts
place_in known (Truth false) = Some 1
place_in known (Truth true) = Some 2

-- each value is at the place that is stored for it
abbrev pub AreKnown : Known → Type 0
AreKnown known = (value : Value) (place : ℕ) → place_in known value ≡ Some place → IsAt known place value

-- no value changes its place
abbrev pub Keeps : Known → Known → Type 0
Keeps old new = (value : Value) (place : ℕ) → place_in old value ≡ Some place → place_in new value ≡ Some place

-- the places of the values of given positions in a column
pub record AreNumbers (known : Known) (column : ℕ) (rows : List Row) (given numbers : List ℕ) : Type 0 where
  pub long : length numbers ≡ length given
  pub each : (k : ℕ) → k < length given → place_in known (column_of (row_at rows (get_or given k 0)) column) ≡ Some (get_or numbers k 0)
