-- Derived tables in place of the tables of a name.
use Rattle.std.specs.Prelude.{ℕ, ◌+◌, ◌&&◌, not, if◌then◌else◌, Bool, true, false, List, [], ◌∷◌, ◌++◌}
use Rattle.wd_lex.specs.declared.token.Terminal.TheVariants as m
use Rattle.wd_lex.specs.declared.token.TokenKind.{TokenKind}
use Rattle.wd_lex.specs.declared.token.TokenKind.TheVariants as t
use Rattle.wd_lex.specs.declared.token.Token.{Token}
use Rattle.wd_with.specs.declared.place.Place.{Place}
use Rattle.wd_with.specs.Places.{is_table, levels_after}
use Rattle.wd_with.specs.Members.{NamedQuery, begins, is_as}
use Rattle.wd_clauses.specs.Added.{added}
use Rattle.wd_clauses.specs.Names.{is_name, is_same_name}

-- a name continues after a dot, and before a bracket it is a function's
abbrev pub goes_on : TokenKind → Bool
goes_on (t.Terminal m.Dot) = true
goes_on (t.Terminal m.LeftBracket) = true
goes_on _ = false

-- the member is read there: its bare name appears where a table is expected
abbrev pub is_read : NamedQuery → List Place → Token → List Token → Bool
is_read member levels token after = is_table levels && is_same_name member.name.kind token.kind && not (begins goes_on after)

-- the alias of a derived table in place of a table: the table's alias if it has one, else its name
abbrev pub alias : Token → List Token → List Token
alias table after = if begins is_as after then [] else (if begins is_name after then added m.As table ∷ [] else added m.As table ∷ table ∷ [])

-- ( query ) [AS [name]], before the tokens after the table's name
abbrev pub derived : List Token → Token → List Token → List Token
derived query table after = added m.LeftBracket table ∷ query ++ added m.RightBracket table ∷ alias table after

-- what replaces a token
abbrev pub written : NamedQuery → List Place → Token → List Token → List Token
written member levels token after = if is_read member levels token after then derived member.query token after else token ∷ []

-- tokens with the member's query in place of each table of its name
unfoldable pub replaced : NamedQuery → List Place → List Token → List Token
replaced member levels [] = []
replaced member levels (token ∷ after) = written member levels token after ++ replaced member (levels_after levels token.kind) after

-- how often the member is read
unfoldable pub uses : NamedQuery → List Place → List Token → ℕ
uses member levels [] = 0
uses member levels (token ∷ after) = (if is_read member levels token after then 1 else 0) + uses member (levels_after levels token.kind) after
