-- What a number counts.
use Rattle.std.specs.Prelude.{ℕ, ◌==◌, ◌&&◌, ◌||◌, nat_le, nat_lt, Bool, true, false, if◌then◌else◌, Option, Some, None}
use Rattle.wd_lex.specs.declared.token.Terminal.TheVariants as m
use Rattle.wd_lex.specs.declared.token.TokenKind.{TokenKind}
use Rattle.wd_lex.specs.declared.token.TokenKind.TheVariants as t
use Rattle.wd_dialect_read.specs.declared.kind.ColumnKind.{ColumnKind}
use Rattle.wd_dialect_read.specs.declared.kind.ColumnKind.TheVariants as kind
use Rattle.wd_units.specs.declared.unit.Unit.{Unit as Counts}
use Rattle.wd_units.specs.declared.unit.Unit.TheVariants.{Days, Microseconds, Span, Plain, Number, Decimal, Unclear}
use Rattle.wd_units.specs.Tokens.{◌>>=◌, or_else}

abbrev pub is_same : Counts → Counts → Bool
is_same Days Days = true
is_same Microseconds Microseconds = true
is_same Span Span = true
is_same Plain Plain = true
is_same (Number first) (Number second) = first == second
is_same (Decimal first) (Decimal second) = first == second
is_same _ _ = false

-- what the values of a decimal count, of which 64 bits hold at least one whole one
abbrev pub decimal_unit : Option ℕ → Option Counts
decimal_unit (Some scale) = if nat_lt scale 19 then Some (Decimal scale) else None
decimal_unit None = None

-- what the values of a column count
abbrev pub unit_of_kind : ColumnKind → Option Counts
unit_of_kind kind.Small = Some Plain
unit_of_kind kind.Whole = Some Plain
unit_of_kind kind.Big = Some Plain
unit_of_kind kind.Date = Some Days
unit_of_kind kind.Timestamp = Some Microseconds
unit_of_kind (kind.Decimal scale) = decimal_unit scale
unit_of_kind _ = None

abbrev pub is_number : Counts → Bool
is_number (Number places) = true
is_number _ = false

abbrev pub is_unclear : Counts → Bool
is_unclear Unclear = true
is_unclear _ = false

-- units of the last place of a decimal, be it clear of which or not
abbrev pub is_decimal : Counts → Bool
is_decimal (Decimal scale) = true
is_decimal Unclear = true
is_decimal _ = false

abbrev pub counts_decimal : Option Counts → Bool
counts_decimal None = false
counts_decimal (Some unit) = is_decimal unit

-- what is written as a whole number alone can say so many of these
abbrev pub takes_numbers : Counts → Bool
takes_numbers Plain = true
takes_numbers (Decimal scale) = true
takes_numbers _ = false

-- a number that is written with so many places can say how much of these there is: none are whole, and units of a decimal's last place
-- have at most the places of the decimal
abbrev pub takes_places : Counts → ℕ → Bool
takes_places Plain places = places == 0
takes_places (Number others) places = nat_le places others
takes_places (Decimal scale) places = nat_le places scale
takes_places _ places = false

-- the second is a number that is written, which counts what the first does
abbrev pub goes_with : Counts → Counts → Bool
goes_with first (Number places) = takes_places first places
goes_with first _ = false

-- what two count that are compared, or added where neither is a moment: a number that is written counts what the other does
abbrev pub common_unit : Counts → Counts → Option Counts
common_unit first second =
    if is_unclear first || is_unclear second then Some Unclear
    else (if is_same first second then Some first
    else (if goes_with first second then Some first
    else (if goes_with second first then Some second else None)))

abbrev pub unclear_if : Bool → Option Counts
unclear_if true = Some Unclear
unclear_if false = None

-- what counts the one or the other: what they share, and where they share nothing and one of them is a decimal, it isn't clear what
abbrev pub either : Option Counts → Option Counts → Option Counts
either first second = or_else (first >>= λ one. second >>= λ other. common_unit one other) (unclear_if (counts_decimal first || counts_decimal second))

-- a whole number that is written, and whatever counts no unit of its own, say how many of something there are
abbrev pub counts_ones : Counts → Bool
counts_ones Plain = true
counts_ones (Number places) = places == 0
counts_ones _ = false

-- a day, so many days later or earlier
abbrev pub days_by : Counts → Option Counts
days_by count = if counts_ones count then Some Days else None

-- a moment and a span, a day and a number of days, in either order
abbrev pub sum_unit : Counts → Counts → Option Counts
sum_unit Microseconds Span = Some Microseconds
sum_unit Microseconds _ = None
sum_unit Span Microseconds = Some Microseconds
sum_unit Days count = days_by count
sum_unit count Days = days_by count
sum_unit first second = common_unit first second

-- the microseconds between two moments, or the days between two days
abbrev pub difference_unit : Counts → Counts → Option Counts
difference_unit Microseconds Microseconds = Some Span
difference_unit Microseconds Span = Some Microseconds
difference_unit Microseconds _ = None
difference_unit Days Days = Some Plain
difference_unit Days count = days_by count
difference_unit first second = common_unit first second

-- so many of what the other factor counts
abbrev pub product_unit : Counts → Counts → Option Counts
product_unit first second =
    if is_unclear first || is_unclear second then Some Unclear
    else (if counts_ones first && counts_ones second then Some Plain
    else (if counts_ones second && takes_numbers first then Some first
    else (if counts_ones first && takes_numbers second then Some second else None)))

-- a quotient of whole numbers, or its remainder
abbrev pub quotient_unit : Counts → Counts → Option Counts
quotient_unit first second = if counts_ones first && counts_ones second then Some Plain else None

-- what two operands come to with an operator between them
abbrev pub operation_unit : TokenKind → Option Counts → Option Counts → Option Counts
operation_unit (t.Terminal m.Plus) (Some first) (Some second) = sum_unit first second
operation_unit (t.Terminal m.Minus) (Some first) (Some second) = difference_unit first second
operation_unit (t.Terminal m.Star) (Some first) (Some second) = product_unit first second
operation_unit (t.Terminal m.Slash) (Some first) (Some second) = quotient_unit first second
operation_unit (t.Terminal m.Percent) (Some first) (Some second) = quotient_unit first second
operation_unit _ _ _ = None

-- the values of a CASE so far, and what follows WHEN, THEN or ELSE: a condition, or a further value
abbrev pub with_branch : TokenKind → Option Counts → Option Counts → Option Counts
with_branch (t.Terminal m.When) so_far condition = so_far
with_branch _ so_far value = either so_far value

-- the values of an operand: a number that is written counts ones, where it is whole
abbrev pub as_value : Option Counts → Option Counts
as_value (Some (Number places)) = if places == 0 then Some Plain else None
as_value unit = unit

-- ones, or units of a decimal
abbrev pub number_alone : Option Counts → Option Counts
number_alone (Some Plain) = Some Plain
number_alone (Some (Decimal scale)) = Some (Decimal scale)
number_alone (Some Unclear) = Some Unclear
number_alone _ = None

abbrev pub is_moment : Option Counts → Bool
is_moment (Some Days) = true
is_moment (Some Microseconds) = true
is_moment (Some Span) = true
is_moment _ = false

-- a value, or a default in its place, which is a moment where the value is one
abbrev pub with_default : Option Counts → Option Counts → Option Counts
with_default value default = if is_moment value then value else either value default
