-- Rows as numbers: different rows have different numbers.
use Rattle.std.specs.Prelude.{◌≡◌, ℕ, ◌+◌, ◌*◌, ◌^◌, Bool, true, false, List, [], ◌∷◌, map, length, Option, Some, None, IsSome, All, option_and_then, if◌then◌else◌, nat_lt, slice_get, IsPermutation, IsSorted}
use Rattle.std.specs.Option.{option_map_or}
use Rattle.std.specs.HashMap.{get_by, get_by_text}
use Rattle.std.specs.Ordering.{int_eq, nat_cmp}
use Rattle.wd_value.specs.Rows.{Row}
use Rattle.wd_value.specs.Values.{same}
use Rattle.wd_value.specs.declared.value.Value.{Value}
use Rattle.wd_value.specs.declared.value.Value.TheVariants.{Null, Int, Text, Bool as Truth}
use Rattle.wd_refute.specs.declared.places.Places.{Places}

-- ---- places of values

-- a value is at a place
abbrev pub stands_at : List Value → ℕ → Value → Bool
stands_at values place value = option_map_or (λ found. same found value) (slice_get values place) false

-- the place that is stored for a value
abbrev pub kept_place : Places → Value → Option ℕ
kept_place places Null = Some 0
kept_place places (Int n) = get_by (int_eq n) places.wholes
kept_place places (Text text) = get_by_text places.texts text
kept_place places (Truth false) = Some 1
kept_place places (Truth true) = Some 2

-- the place of a value, where the stored place holds that value
abbrev pub place_in : Places → Value → Option ℕ
place_in places value = option_and_then (λ place. if stands_at places.values.items place value then Some place else None) (kept_place places value)

-- ---- numbers of rows

-- a number with a further digit below a count, where 128 bits hold it
abbrev pub with_digit : ℕ → ℕ → ℕ → Option ℕ
with_digit number count digit = if nat_lt (number * count + digit) (2 ^ 128) then Some (number * count + digit) else None

-- a number with the places of a row's values as further digits
abbrev pub number_from : ℕ → List Places → Row → Option ℕ
number_from number [] [] = Some number
number_from number [] (value ∷ row) = None
number_from number (column ∷ columns) [] = None
number_from number (column ∷ columns) (value ∷ row) =
    option_and_then (λ place. option_and_then (λ next. number_from next columns row) (with_digit number (length column.values.items) place)) (place_in column value)

abbrev pub number_of : List Places → Row → Option ℕ
number_of columns row = number_from 0 columns row

-- each row has a number
abbrev pub HaveNumbers : List Places → List Row → Type 0
HaveNumbers columns rows = All (λ row. IsSome (number_of columns row)) rows

-- the numbers of rows, in the rows' order
abbrev pub AreNumbers : List Places → List Row → List ℕ → Type 0
AreNumbers columns rows numbers = map (number_of columns) rows ≡ map Some numbers

-- the numbers of rows, each as often as its row, sorted
pub record AreSortedNumbers (columns : List Places) (rows : List Row) (sorted : List ℕ) : Type 0 where
  pub numbers : List ℕ
  pub are : AreNumbers columns rows numbers
  pub each_once : IsPermutation numbers sorted
  pub ordered : IsSorted nat_cmp sorted
