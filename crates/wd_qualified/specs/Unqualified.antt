-- A query in which the name of each table is the last of the names joined by dots. In SQL a dot comes only after a name, so where a table
-- is named, the dots and the names before them are left out.
use Rattle.std.specs.Prelude.{◌&&◌, ◌||◌, if◌then◌else◌, Bool, true, false, List, [], ◌∷◌, ◌++◌}
use Rattle.wd_lex.specs.declared.token.Terminal.TheVariants as m
use Rattle.wd_lex.specs.declared.token.TokenKind.{TokenKind}
use Rattle.wd_lex.specs.declared.token.TokenKind.TheVariants as t
use Rattle.wd_lex.specs.declared.token.Token.{Token}
use Rattle.wd_clauses.specs.Names.{is_name}
use Rattle.wd_with.specs.declared.place.Place.{Place}
use Rattle.wd_with.specs.Places.{is_table, levels_after}

abbrev pub is_dot : TokenKind → Bool
is_dot (t.Terminal m.Dot) = true
is_dot _ = false

abbrev pub begins_name : List Token → Bool
begins_name [] = false
begins_name (token ∷ tokens) = is_name token.kind

-- a dot and a name after it
abbrev pub goes_on : List Token → Bool
goes_on [] = false
goes_on (dot ∷ tokens) = is_dot dot.kind && begins_name tokens

-- a name before a dot, or such a dot, where a table is named
abbrev pub is_left_out : List Place → Token → List Token → Bool
is_left_out levels token after = is_table levels && (is_name token.kind && goes_on after || is_dot token.kind && begins_name after)

-- the token unless it is left out
abbrev pub kept : Bool → Token → List Token
kept left_out token = if left_out then [] else token ∷ []

abbrev pub levels_past : Bool → List Place → Token → List Place
levels_past left_out levels token = if left_out then levels else levels_after levels token.kind

-- tokens without the names and dots before the last name of a table
unfoldable pub unqualified : List Place → List Token → List Token
unqualified levels [] = []
unqualified levels (token ∷ after) =
    kept (is_left_out levels token after) token ++ unqualified (levels_past (is_left_out levels token after) levels token) after
