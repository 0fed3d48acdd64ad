-- The members of a WITH clause: a name, AS, and a query in brackets. RECURSIVE, MATERIALIZED and names of columns are not read.
use Rattle.std.specs.Prelude.{ℕ, zero, suc, ◌+◌, ◌&&◌, if◌then◌else◌, Bool, true, false, List, [], ◌∷◌, take, drop, Option, Some, None}
use Rattle.wd_lex.specs.declared.token.Terminal.TheVariants as m
use Rattle.wd_lex.specs.declared.token.TokenKind.{TokenKind}
use Rattle.wd_lex.specs.declared.token.TokenKind.TheVariants as t
use Rattle.wd_lex.specs.declared.token.Token.{Token}
use Rattle.wd_clauses.specs.Names.{is_name, is_same_name}
use Rattle.wd_clauses.specs.Reach.{closing, is_comma, opens}

-- a query and its name
pub record NamedQuery : Type 0 where
  pub name : Token
  pub query : List Token

abbrev pub is_as : TokenKind → Bool
is_as (t.Terminal m.As) = true
is_as _ = false

abbrev pub is_with : TokenKind → Bool
is_with (t.Terminal m.With) = true
is_with _ = false

-- SELECT or WITH begins a query
abbrev pub is_query : TokenKind → Bool
is_query (t.Terminal m.Select) = true
is_query (t.Terminal m.With) = true
is_query _ = false

abbrev pub begins : (TokenKind → Bool) → List Token → Bool
begins test [] = false
begins test (token ∷ tokens) = test token.kind

-- the tokens up to a place as the query of that name, and the tokens after the place
abbrev pub cut_at : Token → List Token → Option ℕ → Option (NamedQuery × List Token)
cut_at name tokens None = None
cut_at name tokens (Some place) = Some (record { name = name; query = take place tokens }, drop (place + 1) tokens)

-- name AS ( query ), and the tokens after it
unfoldable pub member_at : List Token → Option (NamedQuery × List Token)
member_at (name ∷ word ∷ bracket ∷ tokens) =
    if is_name name.kind && is_as word.kind && opens bracket.kind && begins is_query tokens then cut_at name tokens (closing tokens) else None
member_at _ = None

-- the most members of a WITH clause (this project's choice)
abbrev pub most_members : ℕ
most_members = 64

-- the members that are read, and the tokens after them
abbrev pub Members : Type 0
Members = Option (List NamedQuery × List Token)

abbrev pub with_front : NamedQuery → Members → Members
with_front member None = None
with_front member (Some found) = Some (member ∷ found.0, found.1)

-- the tokens after a comma, if they begin with one
abbrev pub past_comma : List Token → Option (List Token)
past_comma [] = None
past_comma (token ∷ tokens) = if is_comma token.kind then Some tokens else None

-- one member, or, if a comma follows it, also the members that are read after that
abbrev pub with_next : (List Token → Members) → NamedQuery → List Token → Option (List Token) → Members
with_next further member after None = Some (member ∷ [], after)
with_next further member after (Some next) = with_front member (further next)

abbrev pub with_further : (List Token → Members) → Option (NamedQuery × List Token) → Members
with_further further None = None
with_further further (Some found) = with_next further found.0 found.1 (past_comma found.1)

-- member {, member}, at most the given number, and the tokens after them
unfoldable pub members_at : ℕ → List Token → Members
members_at zero tokens = None
members_at (suc more) tokens = with_further (members_at more) (member_at tokens)

abbrev pub has_name : TokenKind → List NamedQuery → Bool
has_name name [] = false
has_name name (member ∷ members) = if is_same_name name member.name.kind then true else has_name name members

-- no two members have one name
abbrev pub are_distinct : List NamedQuery → Bool
are_distinct [] = true
are_distinct (member ∷ members) = if has_name member.name.kind members then false else are_distinct members
