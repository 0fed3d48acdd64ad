-- Single tokens.
use Rattle.std.specs.Prelude.{codes, if◌then◌else◌, Bool, true, false, List, [], ◌∷◌}
use Rattle.std.specs.Str.{bytes_eq}
use Rattle.wd_lex.specs.declared.token.Terminal.TheVariants as m
use Rattle.wd_lex.specs.declared.token.TokenKind.{TokenKind}
use Rattle.wd_lex.specs.declared.token.TokenKind.TheVariants as t
use Rattle.wd_lex.specs.declared.token.Token.{Token}

abbrev pub is_using : TokenKind → Bool
is_using (t.Terminal m.Using) = true
is_using _ = false

abbrev pub is_inner : TokenKind → Bool
is_inner (t.Terminal m.Inner) = true
is_inner _ = false

abbrev pub is_star : TokenKind → Bool
is_star (t.Terminal m.Star) = true
is_star _ = false

-- FROM or JOIN, after which a table begins
abbrev pub begins_table : TokenKind → Bool
begins_table (t.Terminal m.From) = true
begins_table (t.Terminal m.Join) = true
begins_table _ = false

-- what may follow a table and its condition in a FROM clause
abbrev pub ends_table : TokenKind → Bool
ends_table (t.Terminal m.Join) = true
ends_table (t.Terminal m.Comma) = true
ends_table (t.Terminal m.Left) = true
ends_table (t.Terminal m.Right) = true
ends_table (t.Terminal m.Full) = true
ends_table (t.Terminal m.Natural) = true
ends_table (t.Terminal m.Cross) = true
ends_table _ = false

-- a further select
abbrev pub begins_select : TokenKind → Bool
begins_select (t.Terminal m.Select) = true
begins_select (t.Terminal m.Union) = true
begins_select _ = false

abbrev pub is_and : TokenKind → Bool
is_and (t.Terminal m.And) = true
is_and _ = false

-- OR, and CASE, in which AND and OR may appear without brackets
abbrev pub is_choice : TokenKind → Bool
is_choice (t.Terminal m.Or) = true
is_choice (t.Terminal m.Case) = true
is_choice _ = false

-- a word with an AND of its own after it
abbrev pub is_between : TokenKind → Bool
is_between (t.Word text) = bytes_eq text (codes "between")
is_between _ = false

-- a word that begins a clause that may remove rows by their order
abbrev pub begins_limit : TokenKind → Bool
begins_limit (t.Terminal m.Order) = true
begins_limit (t.Terminal m.Limit) = true
begins_limit (t.Terminal m.Offset) = true
begins_limit (t.Terminal m.Fetch) = true
begins_limit _ = false

-- a token after which a star stands for columns: an item begins after it, or it is a dot
abbrev pub begins_columns : TokenKind → Bool
begins_columns (t.Terminal m.Select) = true
begins_columns (t.Terminal m.Distinct) = true
begins_columns (t.Terminal m.All) = true
begins_columns (t.Terminal m.Comma) = true
begins_columns (t.Terminal m.Dot) = true
begins_columns _ = false

-- a token after which a name would name an item: a value may end with it, or it is AS
abbrev pub ends_value : TokenKind → Bool
ends_value (t.Terminal m.As) = true
ends_value (t.Terminal m.RightBracket) = true
ends_value (t.Terminal m.End) = true
ends_value (t.Terminal m.Null) = true
ends_value (t.Terminal m.True) = true
ends_value (t.Terminal m.False) = true
ends_value (t.Terminal terminal) = false
ends_value _ = true

-- a token after which a name is not a column alone: after AS a name is new, and after a dot it is a certain table's
abbrev pub is_taken : TokenKind → Bool
is_taken (t.Terminal m.As) = true
is_taken (t.Terminal m.Dot) = true
is_taken _ = false

abbrev pub has : (TokenKind → Bool) → List Token → Bool
has test [] = false
has test (token ∷ tokens) = if test token.kind then true else has test tokens
