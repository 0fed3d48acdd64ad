-- Single tokens.
use Rattle.std.specs.Prelude.{ℕ, codes, ◌||◌, Bool, true, false, Option, Some, None}
use Rattle.std.specs.Str.{bytes_eq}
use Rattle.wd_lex.specs.declared.token.Terminal.TheVariants as m
use Rattle.wd_lex.specs.declared.token.TokenKind.{TokenKind}
use Rattle.wd_lex.specs.declared.token.TokenKind.TheVariants as t
use Rattle.wd_distinct_on.specs.Kinds.{is_direction}

abbrev pub is_group : TokenKind → Bool
is_group (t.Terminal m.Group) = true
is_group _ = false

abbrev pub is_over : TokenKind → Bool
is_over (t.Terminal m.Over) = true
is_over _ = false

abbrev pub number_of : TokenKind → Option ℕ
number_of (t.Number number) = Some number
number_of _ = None

-- whether a token is a bracket or a plus sign: an expression that begins with it gets the name of a column where it holds one alone
abbrev pub is_plain : TokenKind → Bool
is_plain (t.Terminal m.LeftBracket) = true
is_plain (t.Terminal m.Plus) = true
is_plain _ = false

-- ROLLUP, CUBE or GROUPING SETS begins sets of keys
abbrev pub begins_sets : TokenKind → Bool
begins_sets (t.Word text) = bytes_eq text (codes "rollup") || bytes_eq text (codes "cube") || bytes_eq text (codes "grouping")
begins_sets _ = false

-- whether a separate operand begins after this token. AND, OR and NOT are not among these tokens: in x AND a OR b, and in x BETWEEN y
-- AND a = b, what follows AND is no separate operand.
abbrev pub begins_operand : TokenKind → Bool
begins_operand (t.Terminal m.Select) = true
begins_operand (t.Terminal m.LeftBracket) = true
begins_operand (t.Terminal m.Comma) = true
begins_operand (t.Terminal m.By) = true
begins_operand (t.Terminal m.Case) = true
begins_operand (t.Terminal m.When) = true
begins_operand (t.Terminal m.Then) = true
begins_operand (t.Terminal m.Else) = true
begins_operand _ = false

-- whether a token is a bracket, a comma, AS, or a word of CASE, of a frame or of a later clause
abbrev pub stops_operand : TokenKind → Bool
stops_operand (t.Terminal m.RightBracket) = true
stops_operand (t.Terminal m.Semicolon) = true
stops_operand (t.Terminal m.Comma) = true
stops_operand (t.Terminal m.As) = true
stops_operand (t.Terminal m.When) = true
stops_operand (t.Terminal m.Then) = true
stops_operand (t.Terminal m.Else) = true
stops_operand (t.Terminal m.End) = true
stops_operand (t.Terminal m.Rows) = true
stops_operand (t.Terminal m.Range) = true
stops_operand (t.Terminal m.Groups) = true
stops_operand (t.Terminal m.Having) = true
stops_operand (t.Terminal m.Window) = true
stops_operand (t.Terminal m.Order) = true
stops_operand (t.Terminal m.Limit) = true
stops_operand (t.Terminal m.Offset) = true
stops_operand (t.Terminal m.Fetch) = true
stops_operand _ = false

-- whether a separate operand ends before this token
abbrev pub ends_operand : TokenKind → Bool
ends_operand kind = stops_operand kind || is_direction kind
