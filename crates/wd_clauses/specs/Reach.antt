-- How far the parts of a query reach: to what ends them at their own level, outside the brackets within.
use Rattle.std.specs.Prelude.{ℕ, ◌+◌, ◌-◌, ◌==◌, ◌||◌, ◌&&◌, if◌then◌else◌, Bool, true, false, List, [], ◌∷◌, Option, Some, None}
use Rattle.wd_lex.specs.declared.token.Terminal.TheVariants as m
use Rattle.wd_lex.specs.declared.token.TokenKind.{TokenKind}
use Rattle.wd_lex.specs.declared.token.TokenKind.TheVariants as t
use Rattle.wd_lex.specs.declared.token.Token.{Token}
use Rattle.wd_clauses.specs.declared.level.Stop.{Stop}
use Rattle.wd_clauses.specs.declared.level.Stop.TheVariants as stop

abbrev pub opens : TokenKind → Bool
opens (t.Terminal m.LeftBracket) = true
opens _ = false

abbrev pub closes : TokenKind → Bool
closes (t.Terminal m.RightBracket) = true
closes _ = false

-- a level ends with its bracket, or with a semicolon
abbrev pub ends_level : TokenKind → Bool
ends_level (t.Terminal m.RightBracket) = true
ends_level (t.Terminal m.Semicolon) = true
ends_level _ = false

abbrev pub is_comma : TokenKind → Bool
is_comma (t.Terminal m.Comma) = true
is_comma _ = false

abbrev pub is_where : TokenKind → Bool
is_where (t.Terminal m.Where) = true
is_where _ = false

-- FROM, and DISTINCT, since IS DISTINCT FROM begins no clause
abbrev pub ends_items : TokenKind → Bool
ends_items (t.Terminal m.From) = true
ends_items (t.Terminal m.Distinct) = true
ends_items _ = false

-- what begins a clause after WHERE
abbrev pub begins_later : TokenKind → Bool
begins_later (t.Terminal m.Group) = true
begins_later (t.Terminal m.Having) = true
begins_later (t.Terminal m.Window) = true
begins_later (t.Terminal m.Union) = true
begins_later (t.Terminal m.Order) = true
begins_later (t.Terminal m.Limit) = true
begins_later (t.Terminal m.Offset) = true
begins_later (t.Terminal m.Fetch) = true
begins_later _ = false

-- whether a part that ends in this way ends at a token
abbrev pub stops : Stop → TokenKind → Bool
stops stop.Comma kind = is_comma kind
stops stop.From kind = ends_items kind
stops stop.Clause kind = is_where kind || begins_later kind
stops stop.Later kind = begins_later kind

-- how many brackets are open after a token
abbrev pub depth_after : ℕ → TokenKind → ℕ
depth_after depth (t.Terminal m.LeftBracket) = depth + 1
depth_after depth (t.Terminal m.RightBracket) = depth - 1
depth_after depth _ = depth

-- `count` tokens and those before the end of the part; `depth` brackets are open
unfoldable pub reach_from : Stop → ℕ → ℕ → List Token → ℕ
reach_from stop depth count [] = count
reach_from stop depth count (token ∷ tokens) =
    if depth == 0 && (ends_level token.kind || stops stop token.kind) then count else reach_from stop (depth_after depth token.kind) (count + 1) tokens

-- how many tokens come before the end of a part that begins with them
abbrev pub reach : Stop → List Token → ℕ
reach stop tokens = reach_from stop 0 0 tokens

-- the place of the bracket that closes the level of these tokens, of which the first has the place `place`; `depth` brackets are open
-- within the level
unfoldable pub closing_from : ℕ → ℕ → List Token → Option ℕ
closing_from depth place [] = None
closing_from depth place (token ∷ tokens) =
    if depth == 0 && closes token.kind then Some place else closing_from (depth_after depth token.kind) (place + 1) tokens

abbrev pub closing : List Token → Option ℕ
closing tokens = closing_from 0 0 tokens
