-- Single tokens.
use Rattle.std.specs.Prelude.{◌==◌, codes, Bool, true, false, List, [], ◌∷◌}
use Rattle.std.specs.Str.{bytes_eq}
use Rattle.wd_lex.specs.Terminals.{terminal_code}
use Rattle.wd_lex.specs.declared.token.Terminal.TheVariants as m
use Rattle.wd_lex.specs.declared.token.TokenKind.{TokenKind}
use Rattle.wd_lex.specs.declared.token.TokenKind.TheVariants as t
use Rattle.wd_lex.specs.declared.token.Token.{Token}
use Rattle.wd_clauses.specs.Names.{is_named}

abbrev pub is_as : TokenKind → Bool
is_as (t.Terminal m.As) = true
is_as _ = false

abbrev pub is_dot : TokenKind → Bool
is_dot (t.Terminal m.Dot) = true
is_dot _ = false

abbrev pub is_from : TokenKind → Bool
is_from (t.Terminal m.From) = true
is_from _ = false

abbrev pub is_select : TokenKind → Bool
is_select (t.Terminal m.Select) = true
is_select _ = false

abbrev pub is_distinct : TokenKind → Bool
is_distinct (t.Terminal m.Distinct) = true
is_distinct _ = false

abbrev pub is_on : TokenKind → Bool
is_on (t.Terminal m.On) = true
is_on _ = false

abbrev pub is_order : TokenKind → Bool
is_order (t.Terminal m.Order) = true
is_order _ = false

abbrev pub is_by : TokenKind → Bool
is_by (t.Terminal m.By) = true
is_by _ = false

abbrev pub is_number : TokenKind → Bool
is_number (t.Number number) = true
is_number _ = false

-- ASC, DESC or NULLS ends what a key sorts by
abbrev pub is_direction : TokenKind → Bool
is_direction (t.Terminal m.Asc) = true
is_direction (t.Terminal m.Desc) = true
is_direction (t.Word text) = bytes_eq text (codes "nulls")
is_direction _ = false

abbrev pub begins : (TokenKind → Bool) → List Token → Bool
begins test [] = false
begins test (token ∷ tokens) = test token.kind

-- whether two tokens say the same; a name may be quoted or not
abbrev pub is_same : TokenKind → TokenKind → Bool
is_same (t.Terminal x) (t.Terminal y) = terminal_code x == terminal_code y
is_same (t.Word text) kind = is_named text kind
is_same (t.Quoted text) kind = is_named text kind
is_same (t.Literal text) (t.Literal other) = bytes_eq text other
is_same (t.Number number) (t.Number other) = number == other
is_same _ _ = false
