-- A query without its WITH clause. WITH a AS ( q ), b AS ( r ) .. is WITH a AS ( q ) .. with ( r ) AS b in place of each table b, and
-- WITH a AS ( q ) .. is .. with ( q ) AS a in place of each table a. So the last member is taken out first, and its query is not searched
-- for its own name.
use Rattle.std.specs.Prelude.{if◌then◌else◌, nat_le, List, [], ◌∷◌, ◌++◌, Some, None}
use Rattle.wd_lex.specs.declared.token.Token.{Token}
use Rattle.wd_with.specs.declared.expand.Expanded.{Expanded}
use Rattle.wd_with.specs.declared.place.Place.TheVariants as place
use Rattle.wd_with.specs.Members.{NamedQuery, Members, are_distinct, is_with, members_at, most_members}
use Rattle.wd_with.specs.Derived.{replaced, uses}

-- a query without members, and the names of those that were read more than once, the last first
pub record Said : Type 0 where
  pub tokens : List Token
  pub read_twice : List Token

abbrev pub said : Expanded → Said
said expanded = record { tokens = expanded.tokens.items; read_twice = expanded.read_twice.items }

-- a query as it is
abbrev pub unchanged : List Token → Said
unchanged tokens = record { tokens = tokens; read_twice = [] }

-- the name of a member that is read more than once in a query
abbrev pub twice : NamedQuery → List Token → List Token
twice member tokens = if nat_le 2 (uses member (place.Elsewhere ∷ []) tokens) then member.name ∷ [] else []

-- a query without one member
abbrev pub taken_out : NamedQuery → Said → Said
taken_out member query = record {
  tokens = replaced member (place.Elsewhere ∷ []) query.tokens;
  read_twice = query.read_twice ++ twice member query.tokens;
}

-- a query without the members that come before it
abbrev pub without : List NamedQuery → Said → Said
without [] query = query
without (member ∷ members) query = taken_out member (without members query)

-- the query without the members that were read, if no two have one name; where none were read, the query as it is
abbrev pub without_these : List Token → Members → Said
without_these tokens None = unchanged tokens
without_these tokens (Some found) = if are_distinct found.0 then without found.0 (unchanged found.1) else unchanged tokens

-- a query without its WITH clause, if it begins with one that is read
abbrev pub expanded : List Token → Said
expanded [] = unchanged []
expanded (first ∷ tokens) = if is_with first.kind then without_these (first ∷ tokens) (members_at most_members tokens) else unchanged (first ∷ tokens)
