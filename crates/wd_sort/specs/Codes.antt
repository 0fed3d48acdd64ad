-- Numbers in place of rows, and numbers with their places.
use Rattle.std.specs.Prelude.{◌≡◌, ℕ, ℤ, ◌+◌, ◌*◌, ◌%◌, ◌<◌, ◌-ℤ◌, ◌≤ℤ◌, List, length, get_or, unsigned_abs, if◌then◌else◌, ⊤}
use Rattle.std.specs.Ordering.{nat_cmp}
use Rattle.wd_value.specs.Rows.{Row, column_of, row_at}
use Rattle.wd_value.specs.declared.order.SortColumn.{SortColumn}
use Rattle.wd_value.specs.declared.order.SortKey.{SortKey}
use Rattle.wd_value.specs.declared.value.Value.{Value}
use Rattle.wd_value.specs.declared.value.Value.TheVariants.{Null, Int, Text, Bool as Truth}
use Rattle.wd_sort.specs.Sorting.{compare_rows_at}

-- the codes of given positions compare as the rows of these do
abbrev pub IsCoding : List SortColumn → List Row → List ℕ → List ℕ → Type 0
IsCoding columns rows given codes =
    (i j : ℕ) → i < length given → j < length given → nat_cmp (get_or codes i 0) (get_or codes j 0) ≡ compare_rows_at columns rows (get_or given i 0) (get_or given j 0)

-- codes that compare as the rows do, each below a bound
pub record IsCodingBelow (columns : List SortColumn) (rows : List Row) (given : List ℕ) (bound : ℕ) (codes : List ℕ) : Type 0 where
  pub long : length codes ≡ length given
  pub below : (k : ℕ) → k < length given → get_or codes k 0 < bound
  pub alike : IsCoding columns rows given codes

-- ---- a code and its place

-- each code times their count, with its place added
pub record ArePacked (codes packed : List ℕ) : Type 0 where
  pub long : length packed ≡ length codes
  pub each : (k : ℕ) → k < length codes → get_or packed k 0 ≡ get_or codes k 0 * length codes + k

-- the position at the place that a packed number holds
abbrev pub position_in : List ℕ → ℕ → ℕ
position_in given number = get_or given (number % length given) 0

-- ---- two codes

-- two codes as one number, where the second is below m
abbrev pub pair_code : ℕ → ℕ → ℕ → ℕ
pair_code m high low = high * m + low

-- the pairs of two lists of codes
pub record ArePairs (first others : List ℕ) (m : ℕ) (codes : List ℕ) : Type 0 where
  pub long : length codes ≡ length first
  pub each : (k : ℕ) → k < length first → get_or codes k 0 ≡ pair_code m (get_or first k 0) (get_or others k 0)

-- ---- whole numbers

-- a whole number within a range, or NULL
abbrev pub IsWhole : ℤ → ℤ → Value → Type 0
IsWhole least greatest Null = ⊤
IsWhole least greatest (Int n) = (least ≤ℤ n) × (n ≤ℤ greatest)
IsWhole least greatest (Text t) = ⊥
IsWhole least greatest (Truth b) = ⊥

-- the values of a column at the given positions are whole numbers within the range, or NULL
abbrev pub AreWhole : ℤ → ℤ → ℕ → List Row → List ℕ → Type 0
AreWhole least greatest column rows given = (k : ℕ) → k < length given → IsWhole least greatest (column_of (row_at rows (get_or given k 0)) column)

-- a range that holds another
abbrev pub IsWider : ℤ → ℤ → ℤ → ℤ → Type 0
IsWider least greatest least' greatest' = (least' ≤ℤ least) × (greatest ≤ℤ greatest')

-- how far a whole number is along its range; NULL comes before or after all numbers
abbrev pub whole_code : SortKey → ℤ → ℤ → Value → ℕ
whole_code key least greatest Null = if key.nulls_first then 0 else unsigned_abs (greatest -ℤ least) + 1
whole_code key least greatest (Int n) = (if key.desc then unsigned_abs (greatest -ℤ n) else unsigned_abs (n -ℤ least)) + (if key.nulls_first then 1 else 0)
whole_code key least greatest (Text t) = 0
whole_code key least greatest (Truth b) = 0
