-- Numbers beside decimals, written as units of their last place.
use Rattle.std.specs.Prelude.{ℕ, zero, suc, ◌-◌, ◌*◌, ◌==◌, ◌&&◌, codes, nat_le, nat_lt, Bool, true, false, if◌then◌else◌, List, [], ◌∷◌, Option, Some, None}
use Rattle.std.specs.Str.{bytes_eq}
use Rattle.wd_lex.specs.declared.token.Terminal.TheVariants as m
use Rattle.wd_lex.specs.declared.token.Token.{Token}
use Rattle.wd_lex.specs.declared.token.TokenKind.{TokenKind}
use Rattle.wd_lex.specs.declared.token.TokenKind.TheVariants as t
use Rattle.wd_operands.specs.Operands.{is_sign}
use Rattle.wd_moments.specs.declared.decimal.Stand.{Stand}
use Rattle.wd_moments.specs.declared.decimal.Stand.TheVariants.{Term, Factor, Other, Within}
use Rattle.wd_units.specs.declared.numeral.Numeral.{Numeral}
use Rattle.wd_units.specs.Numerals.{numeral_at}
use Rattle.wd_units.specs.Tokens.{◌>>=◌, depth_after}
use Rattle.wd_moments.specs.Literals.{Written, number_token}

-- a whole number in units of the last place: multiplied by ten for each place, while 64 bits with a sign hold it
unfoldable pub units_of : ℕ → ℕ → Option ℕ
units_of zero number = Some number
units_of (suc scale) number = if nat_lt number 922337203685477581 then units_of scale (number * 10) else None

-- ---- where a number denotes an amount of a decimal

-- how many brackets of a call's number of rows are open
abbrev pub depth_of : Stand → ℕ
depth_of (Within depth) = depth
depth_of _ = 0

abbrev pub within : ℕ → Stand
within depth = if depth == 0 then Other else Within depth

abbrev pub is_comma : TokenKind → Bool
is_comma (t.Terminal m.Comma) = true
is_comma _ = false

abbrev pub begins_bounds : TokenKind → Bool
begins_bounds (t.Word text) = bytes_eq text (codes "between")
begins_bounds _ = false

-- A term begins in brackets, after a sign, where a value of CASE does, and in the bounds of a frame; a factor, perhaps with a sign of its
-- own, comes after a star. After the first comma of a call comes its number of rows, and after the next a default, which is a term.
abbrev pub stand_by : TokenKind → Stand
stand_by (t.Terminal m.LeftBracket) = Term
stand_by (t.Terminal m.Plus) = Term
stand_by (t.Terminal m.Minus) = Term
stand_by (t.Terminal m.Then) = Term
stand_by (t.Terminal m.Else) = Term
stand_by (t.Terminal m.Range) = Term
stand_by (t.Terminal m.And) = Term
stand_by (t.Terminal m.Star) = Factor
stand_by (t.Terminal m.Comma) = Within 1
stand_by kind = if begins_bounds kind then Term else Other

abbrev pub stand_after : Stand → TokenKind → Stand
stand_after (Within depth) kind = if depth == 1 && is_comma kind then Term else within (depth_after depth kind)
stand_after Factor kind = if is_sign kind then Factor else stand_by kind
stand_after _ kind = stand_by kind

-- the place after a part that is written on its own
abbrev pub beyond : Stand → Stand
beyond (Within depth) = Within depth
beyond _ = Other

abbrev pub is_term : Stand → Bool
is_term Term = true
is_term _ = false

-- ---- numbers in units

-- the units, or the first number that 64 bits with a sign do not hold, which the profile refuses
abbrev pub or_past : Option ℕ → ℕ
or_past None = 9223372036854775808
or_past (Some units) = units

-- a number in units
abbrev pub kind_in_units : ℕ → TokenKind → TokenKind
kind_in_units scale (t.Number number) = t.Number (or_past (units_of scale number))
kind_in_units scale kind = kind

abbrev pub token_in_units : ℕ → Bool → Token → Token
token_in_units scale true token = record { kind = kind_in_units scale token.kind; span = token.span }
token_in_units scale false token = token

-- a number with a point in units of the last of the given number of places, if it has no more places
unfoldable pub numeral_units : ℕ → Numeral → Option ℕ
numeral_units scale x = if nat_le x.places scale then Some (or_past (units_of (scale - x.places) x.number)) else None

-- the number with a point at the start in units, if it is a term
unfoldable pub term_units : ℕ → Stand → List Token → Option ℕ
term_units scale stand tokens = numeral_at tokens >>= λ x. if is_term stand then numeral_units scale x else None

abbrev pub by_units : ℕ → Stand → Token → Option ℕ → Written
by_units scale stand token (Some units) = (number_token units token.span ∷ [], true)
by_units scale stand token None = (token_in_units scale (is_term stand) token ∷ [], false)

-- what replaces the first of the tokens of an operand that counts a decimal, from such a place on: a number that is a term becomes units;
-- and whether it replaces the next token, too
unfoldable pub first_in_units : ℕ → Stand → List Token → Written
first_in_units scale stand [] = ([], false)
first_in_units scale stand (token ∷ tokens) = by_units scale stand token (term_units scale stand (token ∷ tokens))
