-- How the values of a column vary from row to row, by its pseudo-random number.
use Rattle.std.specs.Prelude.{ℕ, ◌+◌, ◌-◌, ◌*◌, ◌/◌, ◌%◌, Bool, false, List, length, filter, min, nat_eq, nat_lt, slice_get, slice_index_or, if◌then◌else◌, Option, Some, None}
use Rattle.std.specs.List.{list_any}
use Rattle.wd_value.specs.declared.value.Value.{Value}
use Rattle.wd_value.specs.declared.value.Value.TheVariants.{Null, Text}
use Rattle.wd_value.specs.declared.value.ColumnType.{ColumnType}
use Rattle.wd_schema.specs.declared.table.Column.{Column}
use Rattle.wd_schema.specs.Meets.{is_of_type}
use Rattle.wd_schema.specs.Tables.{KeyRule}
use Rattle.wd_varied.specs.Values.{apart, apart_from, or_else}
use Rattle.wd_varied.specs.declared.patterns.Pattern.{Pattern}
use Rattle.wd_varied.specs.declared.patterns.Pattern.TheVariants as pattern
use Rattle.wd_varied.specs.declared.patterns.Filling.{Filling}

-- ---- keys

abbrev pub is_at : ℕ → Option ℕ → Bool
is_at c None = false
is_at c (Some k) = nat_eq k c

-- whether a key distinguishes rows by a column, in the try with a number: by each of its columns in turn
abbrev pub tells : ℕ → ℕ → KeyRule → Bool
tells number c key = is_at c (slice_get key.columns (number % length key.columns))

-- whether some key does
abbrev pub is_telling : ℕ → ℕ → List KeyRule → Bool
is_telling number c keys = list_any (tells number c) keys

-- ---- patterns

-- the pseudo-random number of a column of a table with the given number of rows in the try with a number: a cube modulo a prime
abbrev pub seed : ℕ → ℕ → ℕ → ℕ → ℕ
seed rows number table c = (number + 1000 * (c + 64 * table) + 100003 * rows) % 999983

abbrev pub drawn : ℕ → ℕ → ℕ → ℕ → ℕ
drawn rows number table c = seed rows number table c * seed rows number table c * seed rows number table c % 999983

-- a column by which a key distinguishes rows differs in each row: half of these columns from a value of the pool on
abbrev pub telling_pattern : ℕ → Pattern
telling_pattern d = if nat_lt (d % 16) 8 then pattern.Apart else pattern.ApartFrom (d / 16)

-- the pattern of another column by its pseudo-random number: of 16 numbers 6 stand for one value, 4 for the pool's values in turn, and 2
-- for a different value in each row; for 1 the last two rows are equal, for 1 all but the last and for 1 all but the first; and for 1 it
-- is NULL, if the column may hold it
abbrev pub pattern_by : Bool → Column → ℕ → Pattern
pattern_by telling column d =
    if telling then telling_pattern d
    else if nat_lt (d % 16) 6 then pattern.Same (d / 16)
    else if nat_lt (d % 16) 10 then pattern.InTurn (d / 16)
    else if nat_lt (d % 16) 12 then pattern.Apart
    else if nat_lt (d % 16) 13 then pattern.LastTwoAlike
    else if nat_lt (d % 16) 14 then pattern.LastApart
    else if nat_lt (d % 16) 15 then pattern.FirstApart
    else if column.not_null then pattern.InTurn (d / 16)
    else pattern.Null

-- ---- fillings

-- a pattern, and the type and the pool of the column
pub record FillingRule : Type 0 where
  pub pattern : Pattern
  pub kind : ColumnType
  pub pool : List Value

-- the pool has the column's own values, or else the values of its type among all
abbrev pub filling_of : List Value → Filling → FillingRule
filling_of all f = record { pattern = f.pattern; kind = f.kind; pool = or_else f.own.items (filter (is_of_type f.kind) all) }

-- the value of a pool with a number, which wraps around
abbrev pub value_at : List Value → ℕ → Value
value_at pool i = slice_index_or pool (i % length pool) Null

abbrev pub text : List ℕ → Value
text bytes = Text bytes

-- the value of a pattern in a row, of the given number of rows
abbrev pub by_pattern : Pattern → ColumnType → List Value → ℕ → ℕ → Value
by_pattern (pattern.Same from) kind pool rows row = value_at pool from
by_pattern (pattern.InTurn from) kind pool rows row = value_at pool (from + row)
by_pattern pattern.Apart kind pool rows row = apart kind row
by_pattern (pattern.ApartFrom from) kind pool rows row = apart_from (value_at pool from) kind row
by_pattern pattern.LastTwoAlike kind pool rows row = apart kind (min row (rows - 2))
by_pattern pattern.LastApart kind pool rows row = apart kind (row - (rows - 2))
by_pattern pattern.FirstApart kind pool rows row = apart kind (min row 1)
by_pattern pattern.Null kind pool rows row = Null

abbrev pub filled : FillingRule → ℕ → ℕ → Value
filled f rows row = by_pattern f.pattern f.kind f.pool rows row
