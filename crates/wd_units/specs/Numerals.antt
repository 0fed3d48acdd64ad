-- Numbers that are written with a point: NUMERIC '12.50', as PostgreSQL reads `12.50`.
use Rattle.std.specs.Prelude.{ℕ, ◌+◌, ◌-◌, ◌*◌, ◌==◌, ◌&&◌, ◌||◌, codes, nat_lt, if◌then◌else◌, List, [], ◌∷◌, length, take, drop, Option, Some, None}
use Rattle.std.specs.Char.{is_ascii_digit}
use Rattle.std.specs.Str.{bytes_eq}
use Rattle.wd_lex.specs.declared.token.Token.{Token}
use Rattle.wd_lex.specs.declared.token.TokenKind.{TokenKind}
use Rattle.wd_lex.specs.declared.token.TokenKind.TheVariants as t
use Rattle.wd_units.specs.Tokens.{◌>>=◌}
use Rattle.wd_units.specs.declared.numeral.Numeral.{Numeral}

-- the code of `.`
abbrev pub point : ℕ
point = 46

-- the number that digits write after those of a number, while it is below 9223372036854775800
unfoldable pub digits_after : ℕ → List ℕ → Option ℕ
digits_after number [] = Some number
digits_after number (b ∷ text) = if is_ascii_digit b && nat_lt number 922337203685477580 then digits_after (number * 10 + (b - 48)) text else None

-- the digits before the point and those after it, one at least of each: so many units of the last of so many places
unfoldable pub digits_around : List ℕ → List ℕ → Option Numeral
digits_around whole fraction =
    if length whole == 0 || length fraction == 0 then None
    else (digits_after 0 whole >>= λ before. digits_after before fraction >>= λ number. Some (record { number = number; places = length fraction }))

-- how many bytes stand before the first point, or before the end where there is none; so many stand before these
unfoldable pub whole_from : ℕ → List ℕ → ℕ
whole_from count [] = count
whole_from count (b ∷ text) = if b == point then count else whole_from (count + 1) text

-- digits, a point and digits
unfoldable pub numeral_of : List ℕ → Option Numeral
numeral_of text = let whole = whole_from 0 text in digits_around (take whole text) (drop 1 (drop whole text))

-- NUMERIC '..'
unfoldable pub numeral_said : List ℕ → List ℕ → Option Numeral
numeral_said word text = if bytes_eq word (codes "numeric") then numeral_of text else None

abbrev pub numeral_by : List ℕ → TokenKind → Option Numeral
numeral_by word (t.Literal text) = numeral_said word text
numeral_by word _ = None

abbrev pub numeral_after : TokenKind → List Token → Option Numeral
numeral_after (t.Word word) (token ∷ tokens) = numeral_by word token.kind
numeral_after _ _ = None

-- the number with a point at the start
unfoldable pub numeral_at : List Token → Option Numeral
numeral_at [] = None
numeral_at (token ∷ tokens) = numeral_after token.kind tokens
