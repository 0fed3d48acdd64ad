-- Literals of moments, and how much they say.
use Rattle.std.specs.Prelude.{ℕ, ◌||◌, codes, ℤ, if◌then◌else◌, List, [], ◌∷◌, Option, Some, None}
use Rattle.std.specs.Str.{bytes_eq}
use Rattle.wd_lex.specs.declared.token.Token.{Token}
use Rattle.wd_lex.specs.declared.token.TokenKind.{TokenKind}
use Rattle.wd_lex.specs.declared.token.TokenKind.TheVariants as t
use Rattle.wd_calendar.specs.Dates.{day_of}
use Rattle.wd_calendar.specs.Times.{interval_of, microsecond_of}
use Rattle.wd_units.specs.declared.amount.Amount.{Amount}
use Rattle.wd_units.specs.declared.unit.Unit.{Unit as Counts}
use Rattle.wd_units.specs.declared.unit.Unit.TheVariants.{Days, Microseconds, Span}

-- what a literal counts, and how much of it
abbrev pub amount_of : Counts → Option ℤ → Option Amount
amount_of unit None = None
amount_of unit (Some number) = Some (record { unit = unit; number = number })

-- DATE '..', TIMESTAMP '..', TIMESTAMPTZ '..' and INTERVAL '..'
unfoldable pub amount_said : List ℕ → List ℕ → Option Amount
amount_said word text =
    if bytes_eq word (codes "date") then amount_of Days (day_of text)
    else (if bytes_eq word (codes "timestamp") || bytes_eq word (codes "timestamptz") then amount_of Microseconds (microsecond_of text)
    else (if bytes_eq word (codes "interval") then amount_of Span (interval_of text) else None))

abbrev pub amount_by : List ℕ → TokenKind → Option Amount
amount_by word (t.Literal text) = amount_said word text
amount_by word _ = None

abbrev pub amount_after : TokenKind → List Token → Option Amount
amount_after (t.Word word) (token ∷ tokens) = amount_by word token.kind
amount_after _ _ = None

-- the literal at the start
unfoldable pub amount_at : List Token → Option Amount
amount_at [] = None
amount_at (token ∷ tokens) = amount_after token.kind tokens

-- a text alone, where it is known what it is to count
abbrev pub number_said : Counts → TokenKind → Option ℤ
number_said Days (t.Literal text) = day_of text
number_said Microseconds (t.Literal text) = microsecond_of text
number_said _ _ = None
