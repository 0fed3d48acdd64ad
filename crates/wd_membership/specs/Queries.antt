-- Selects with a FROM clause, where UNION, EXCEPT and INTERSECT appear only in brackets, and the queries of IN and EXISTS.
use Rattle.std.specs.Prelude.{ℕ, ◌+◌, ◌||◌, if◌then◌else◌, List, [], ◌∷◌, take, drop, Option, Some, None}
use Rattle.wd_lex.specs.declared.token.Token.{Token}
use Rattle.wd_clauses.specs.declared.level.Stop.TheVariants.{Later}
use Rattle.wd_clauses.specs.Reach.{closing, opens, reach}
use Rattle.wd_distinct_on.specs.Respelled.{◌>>=◌}
use Rattle.wd_using.specs.declared.level.Extent.TheVariants as extent
use Rattle.wd_using.specs.Joins.{is_end}
use Rattle.wd_using.specs.Pieces.{Pieces, pieces_at}
use Rattle.wd_membership.specs.Conjuncts.{stands}

-- no other select is at its level, as there is one after UNION, EXCEPT and INTERSECT
abbrev pub if_alone : Pieces → Option Pieces
if_alone select = if stands extent.Select select.items || stands extent.Select select.tables || stands extent.Select select.clauses then None else Some select

-- the select that begins here
abbrev pub select_at : List Token → Option Pieces
select_at tokens = pieces_at tokens >>= if_alone

-- the WHERE clause
abbrev pub conditions : Pieces → List Token
conditions select = take (reach Later select.clauses) select.clauses

-- what follows WHERE
abbrev pub later : Pieces → List Token
later select = drop (reach Later select.clauses) select.clauses

-- the tokens up to the closing bracket, if nothing follows it
abbrev pub inside : List Token → Option ℕ → Option (List Token)
inside tokens None = None
inside tokens (Some place) = if is_end (drop (place + 1) tokens) then Some (take place tokens) else None

-- ( tokens ), and nothing else
abbrev pub bracketed : List Token → Option (List Token)
bracketed [] = None
bracketed (bracket ∷ tokens) = if opens bracket.kind then inside tokens (closing tokens) else None

abbrev pub if_whole : Pieces → Option Pieces
if_whole select = if is_end select.after then Some select else None

-- a select, and nothing else
abbrev pub whole : List Token → Option Pieces
whole tokens = select_at tokens >>= if_whole

-- ( select ), and nothing else
unfoldable pub query_in : List Token → Option Pieces
query_in tokens = bracketed tokens >>= whole
