-- The tables of a query by their places. A table comes after FROM, after JOIN, and after a comma of a FROM clause at its level. A FROM
-- clause reaches from the FROM after the items of SELECT to the next WHERE, GROUP, HAVING, WINDOW, ORDER, LIMIT, OFFSET or FETCH, or to
-- the end of its level; IS DISTINCT FROM begins none. A bracket that opens where a table is expected may hold tables too.
use Rattle.std.specs.Prelude.{Bool, true, false, List, [], ◌∷◌}
use Rattle.wd_lex.specs.declared.token.Terminal.TheVariants as m
use Rattle.wd_lex.specs.declared.token.TokenKind.{TokenKind}
use Rattle.wd_lex.specs.declared.token.TokenKind.TheVariants as t
use Rattle.wd_with.specs.declared.place.Place.{Place}
use Rattle.wd_with.specs.declared.place.Place.TheVariants as place

-- the place after a token that is in no FROM clause and among no items
abbrev pub after_elsewhere : TokenKind → Place
after_elsewhere (t.Terminal m.Select) = place.Items
after_elsewhere _ = place.Elsewhere

-- the place after a token among the items of SELECT
abbrev pub after_item : TokenKind → Place
after_item (t.Terminal m.Distinct) = place.Distinct
after_item (t.Terminal m.From) = place.Table
after_item _ = place.Items

-- the place after a token of a FROM clause
abbrev pub after_table : TokenKind → Place
after_table (t.Terminal m.Join) = place.Table
after_table (t.Terminal m.Comma) = place.Table
after_table (t.Terminal m.Where) = place.Elsewhere
after_table (t.Terminal m.Group) = place.Elsewhere
after_table (t.Terminal m.Having) = place.Elsewhere
after_table (t.Terminal m.Window) = place.Elsewhere
after_table (t.Terminal m.Order) = place.Elsewhere
after_table (t.Terminal m.Limit) = place.Elsewhere
after_table (t.Terminal m.Offset) = place.Elsewhere
after_table (t.Terminal m.Fetch) = place.Elsewhere
after_table (t.Terminal m.Select) = place.Items
after_table _ = place.Joined

-- the place after a token, from the token's own place
abbrev pub place_after : Place → TokenKind → Place
place_after place.Elsewhere kind = after_elsewhere kind
place_after place.Items kind = after_item kind
place_after place.Distinct kind = place.Items
place_after place.Table kind = after_table kind
place_after place.Joined kind = after_table kind

-- the place after a bracket opens
abbrev pub inside : Place → Place
inside place.Table = place.Table
inside _ = place.Elsewhere

-- the places after a token at its level and at those around it, the innermost first; none where its level has ended
abbrev pub levels_after : List Place → TokenKind → List Place
levels_after [] kind = []
levels_after (here ∷ outer) (t.Terminal m.LeftBracket) = inside here ∷ place_after here (t.Terminal m.LeftBracket) ∷ outer
levels_after (here ∷ outer) (t.Terminal m.RightBracket) = outer
levels_after (here ∷ outer) kind = place_after here kind ∷ outer

-- a table is expected
abbrev pub is_table : List Place → Bool
is_table (place.Table ∷ outer) = true
is_table _ = false
