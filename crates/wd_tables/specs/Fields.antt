-- The value of a field of a CSV text in a column of a table.
use Rattle.std.specs.Prelude.{ℕ, ◌&&◌, ◌||◌, Bool, true, false, List, [], ◌∷◌, drop, Option, Some, None, option_map, option_and_then, ℤ, pos, neg_ℤ, codes, if◌then◌else◌}
use Rattle.std.specs.Str.{all_ascii_digits, str_eq_ignore_ascii_case}
use Rattle.std.specs.Str.Parse.{digits_value, starts_with_minus}
use Rattle.wd_value.specs.declared.value.Value.{Value}
use Rattle.wd_value.specs.declared.value.Value.TheVariants.{Null, Int, Text, Bool as Truth}
use Rattle.wd_value.specs.declared.value.ColumnType.{ColumnType}
use Rattle.wd_value.specs.declared.value.ColumnType.TheVariants.{SmallInt, Integer, BigInt, Text as TextType, Boolean}
use Rattle.wd_schema.specs.declared.table.Column.{Column}
use Rattle.wd_schema.specs.Meets.{is_of_type}

-- the number that one or more ASCII digits write
abbrev pub numeral_value : List ℕ → Option ℕ
numeral_value [] = None
numeral_value (d ∷ ds) = if all_ascii_digits (d ∷ ds) then Some (digits_value 10 (d ∷ ds)) else None

-- the whole number that digits write, with or without a minus before them
abbrev pub whole_number : List ℕ → Option ℤ
whole_number bytes =
    if starts_with_minus bytes then option_map (λ n. neg_ℤ (pos n)) (numeral_value (drop 1 bytes))
    else option_map pos (numeral_value bytes)

-- the truth value that t, f, true and false write, in any ASCII case
abbrev pub truth_value : List ℕ → Option Bool
truth_value bytes =
    if str_eq_ignore_ascii_case bytes (codes "t") || str_eq_ignore_ascii_case bytes (codes "true") then Some true
    else if str_eq_ignore_ascii_case bytes (codes "f") || str_eq_ignore_ascii_case bytes (codes "false") then Some false
    else None

-- a whole number as a value of the type, where it is in the type's range
abbrev pub number_in : ColumnType → ℤ → Option Value
number_in kind n = if is_of_type kind (Int n) then Some (Int n) else None

-- the value of the type that a field of some bytes stands for, if there is one
abbrev pub value_of_type : ColumnType → List ℕ → Option Value
value_of_type TextType bytes = Some (Text bytes)
value_of_type Boolean bytes = option_map Truth (truth_value bytes)
value_of_type SmallInt bytes = option_and_then (number_in SmallInt) (whole_number bytes)
value_of_type Integer bytes = option_and_then (number_in Integer) (whole_number bytes)
value_of_type BigInt bytes = option_and_then (number_in BigInt) (whole_number bytes)

abbrev pub is_text : ColumnType → Bool
is_text TextType = true
is_text SmallInt = false
is_text Integer = false
is_text BigInt = false
is_text Boolean = false

-- the value of a field in a column: an empty field is NULL, and in a NOT NULL column of texts the empty text
abbrev pub field_value : Column → List ℕ → Option Value
field_value column [] = Some (if column.not_null && is_text column.kind then Text [] else Null)
field_value column (b ∷ bs) = value_of_type column.kind (b ∷ bs)
