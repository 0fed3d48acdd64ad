-- Numbers in place of the literals of moments.
use Rattle.std.specs.Prelude.{ℕ, ℤ, pos, int_lt, unsigned_abs, ◌/◌, ◌%◌, ◌==◌, ◌||◌, not, Bool, true, false, if◌then◌else◌, List, [], ◌∷◌, Option, Some, None}
use Rattle.wd_lex.specs.declared.token.Terminal.{Terminal}
use Rattle.wd_lex.specs.declared.token.Terminal.TheVariants as m
use Rattle.wd_lex.specs.declared.token.Span.{Span as Place}
use Rattle.wd_lex.specs.declared.token.Token.{Token}
use Rattle.wd_lex.specs.declared.token.TokenKind.TheVariants as t
use Rattle.wd_units.specs.declared.amount.Amount.{Amount}
use Rattle.wd_units.specs.declared.unit.Unit.{Unit as Counts}
use Rattle.wd_units.specs.declared.unit.Unit.TheVariants.{Days, Span}
use Rattle.wd_units.specs.Amounts.{amount_at, number_said}

abbrev pub made : Terminal → Place → Token
made x at = record { kind = t.Terminal x; span = at }

abbrev pub number_token : ℕ → Place → Token
number_token n at = record { kind = t.Number n; span = at }

abbrev pub negative_tokens : Place → ℕ → List Token
negative_tokens at n = made m.LeftBracket at ∷ made m.Minus at ∷ number_token n at ∷ made m.RightBracket at ∷ []

-- a number; a negative one in brackets
unfoldable pub number_tokens : Place → ℤ → List Token
number_tokens at number = if int_lt number (pos 0) then negative_tokens at (unsigned_abs number) else number_token (unsigned_abs number) at ∷ []

-- what replaces the first of these tokens, and whether it replaces the next one, too
abbrev pub Written : Type 0
Written = List Token × Bool

abbrev pub by_number : Token → Option ℤ → Written
by_number token (Some number) = (number_tokens token.span number, false)
by_number token None = (token ∷ [], false)

-- the number of whole days in the microseconds
abbrev pub days_in : ℤ → Option ℕ
days_in number = if int_lt number (pos 0) || not (unsigned_abs number % 86400000000 == 0) then None else Some (unsigned_abs number / 86400000000)

abbrev pub by_days : Token → Option ℕ → Written
by_days token None = (token ∷ [], false)
by_days token (Some days) = (number_token days token.span ∷ [], true)

-- a span beside days is a number of days
abbrev pub by_units : Counts → Counts → Token → ℤ → Written
by_units Days Span token number = by_days token (days_in number)
by_units unit other token number = (number_tokens token.span number, true)

abbrev pub by_amount : Counts → Token → Option Amount → Written
by_amount unit token (Some x) = by_units unit x.unit token x.number
by_amount unit token None = by_number token (number_said unit token.kind)

unfoldable pub first_written : Counts → List Token → Written
first_written unit [] = ([], false)
first_written unit (token ∷ tokens) = by_amount unit token (amount_at (token ∷ tokens))
