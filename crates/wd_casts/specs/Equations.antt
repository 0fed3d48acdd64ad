-- The form in which the cast of an operand is written.
use Rattle.std.specs.Prelude.{ℕ, codes, if◌then◌else◌, List, [], ◌∷◌, ◌++◌, Option, Some, None}
use Rattle.wd_lex.specs.declared.token.Terminal.TheVariants as m
use Rattle.wd_lex.specs.declared.token.Span.{Span}
use Rattle.wd_lex.specs.declared.token.Token.{Token}
use Rattle.wd_lex.specs.declared.token.TokenKind.TheVariants as t
use Rattle.wd_casts.specs.declared.equation.Form.{Form}
use Rattle.wd_casts.specs.declared.equation.Form.TheVariants.{Same, DateText, TimestampText, IntervalText, Day, Midnight}
use Rattle.wd_casts.specs.declared.equation.Piece.{Piece}
use Rattle.wd_casts.specs.declared.equation.Piece.TheVariants as p
use Rattle.wd_casts.specs.declared.kind.Kind.{Kind}
use Rattle.wd_casts.specs.declared.kind.Kind.TheVariants as k
use Rattle.wd_casts.specs.declared.known.Known.{Known}
use Rattle.wd_casts.specs.declared.known.Known.TheVariants.{Nothing, Literal, Number, Value}
use Rattle.wd_casts.specs.Kinds.{holds, is_within}

-- ---- which equation holds

-- a text in quotes as a type: DATE '..' and the like; as a text it is itself
abbrev pub text_equation : Kind → Option Form
text_equation k.Text = Some Same
text_equation k.Date = Some DateText
text_equation k.Timestamp = Some TimestampText
text_equation k.Interval = Some IntervalText
text_equation _ = None

-- a value as another type: as its own type, or as one that has all its values, it is itself; a moment as a day, and a day as a moment
abbrev pub value_equation : Kind → Kind → Option Form
value_equation k.Timestamp k.Date = Some Day
value_equation k.Date k.Timestamp = Some Midnight
value_equation from to = if is_within from to then Some Same else None

-- the cast of an operand, by what is known of it: a number is itself where it is a value of the type
abbrev pub equation : Known → Kind → Option Form
equation Nothing kind = None
equation Literal kind = text_equation kind
equation (Number n) kind = if holds kind n then Some Same else None
equation (Value from) kind = value_equation from kind

-- ---- what a form writes

-- the microseconds of a day
abbrev pub day : ℕ
day = 86400000000

-- the day of a moment, rounded down, where division cuts toward zero: CASE WHEN x < 0 THEN ( x + 1 ) / day - 1 ELSE x / day END
abbrev pub day_pieces : List Piece
day_pieces =
    p.Mark m.Case ∷ p.Mark m.When ∷ p.Operand ∷ p.Mark m.Less ∷ p.Number 0 ∷ p.Mark m.Then ∷ p.Mark m.LeftBracket ∷ p.Operand ∷ p.Mark m.Plus ∷ p.Number 1 ∷ p.Mark m.RightBracket ∷ p.Mark m.Slash ∷ p.Number day ∷ p.Mark m.Minus ∷ p.Number 1
    ∷ p.Mark m.Else ∷ p.Operand ∷ p.Mark m.Slash ∷ p.Number day ∷ p.Mark m.End ∷ []

-- the first moment of a day: ( x * day )
abbrev pub midnight_pieces : List Piece
midnight_pieces = p.Mark m.LeftBracket ∷ p.Operand ∷ p.Mark m.Star ∷ p.Number day ∷ p.Mark m.RightBracket ∷ []

abbrev pub pieces : Form → List Piece
pieces Same = p.Operand ∷ []
pieces DateText = p.Word k.Date ∷ p.Operand ∷ []
pieces TimestampText = p.Word k.Timestamp ∷ p.Operand ∷ []
pieces IntervalText = p.Word k.Interval ∷ p.Operand ∷ []
pieces Day = day_pieces
pieces Midnight = midnight_pieces

-- the word of a type before a text
abbrev pub type_word : Kind → List ℕ
type_word k.Date = codes "date"
type_word k.Timestamp = codes "timestamp"
type_word _ = codes "interval"

-- the tokens of a piece; what is added has the place of the cast's sign
abbrev pub piece_tokens : Span → List Token → Piece → List Token
piece_tokens at operand p.Operand = operand
piece_tokens at operand (p.Mark x) = record { kind = t.Terminal x; span = at } ∷ []
piece_tokens at operand (p.Number n) = record { kind = t.Number n; span = at } ∷ []
piece_tokens at operand (p.Word kind) = record { kind = t.Word (type_word kind); span = at } ∷ []

unfoldable pub pieces_tokens : Span → List Token → List Piece → List Token
pieces_tokens at operand [] = []
pieces_tokens at operand (piece ∷ pieces) = piece_tokens at operand piece ++ pieces_tokens at operand pieces

-- the cast of an operand by its equation
abbrev pub cast_tokens : Span → List Token → Option Form → List Token
cast_tokens at operand None = operand
cast_tokens at operand (Some form) = pieces_tokens at operand (pieces form)
