-- The pieces of SELECT [DISTINCT] items FROM .. clauses, and the tokens after it. It may not have DISTINCT ON.
use Rattle.std.specs.Prelude.{ℕ, ◌||◌, if◌then◌else◌, List, [], ◌∷◌, take, drop, Option, Some, None}
use Rattle.wd_lex.specs.declared.token.Token.{Token}
use Rattle.wd_clauses.specs.declared.level.Stop.TheVariants.{Clause, From}
use Rattle.wd_clauses.specs.Reach as clauses
use Rattle.wd_distinct_on.specs.Kinds.{begins, is_distinct, is_from, is_on, is_select}
use Rattle.wd_distinct_on.specs.Respelled.{◌>>=◌}
use Rattle.wd_using.specs.declared.level.Extent.TheVariants.{Level}
use Rattle.wd_using.specs.Kinds.{begins_select, has}
use Rattle.wd_using.specs.Reach.{reach}

pub record Pieces : Type 0 where
  pub select : Token
  pub distinct : List Token
  pub items : List Token
  pub tables : List Token
  pub clauses : List Token
  pub after : List Token

abbrev pub distinct_count : List Token → ℕ
distinct_count tokens = if begins is_distinct tokens then 1 else 0

-- the pieces, with the FROM clause and the clauses after it
abbrev pub with_tables : Token → List Token → List Token → List Token → List Token → Option Pieces
with_tables select distinct items tokens after =
    if begins is_from tokens then
    Some (record { select = select; distinct = distinct; items = items; tables = take (clauses.reach Clause tokens) tokens; clauses = drop (clauses.reach Clause tokens) tokens; after = after })
    else None

-- the pieces, with the items after SELECT [DISTINCT]
abbrev pub with_items : Token → List Token → List Token → List Token → Option Pieces
with_items select distinct tokens after = with_tables select distinct (take (clauses.reach From tokens) tokens) (drop (clauses.reach From tokens) tokens) after

-- the pieces, with the tokens after SELECT at its level
abbrev pub with_body : Token → List Token → List Token → Option Pieces
with_body select body after =
    let list = drop (distinct_count body) body in
    if begins is_on list then None else with_items select (take (distinct_count body) body) list after

-- the select that begins here
unfoldable pub pieces_at : List Token → Option Pieces
pieces_at [] = None
pieces_at (select ∷ tokens) = if is_select select.kind then with_body select (take (reach Level tokens) tokens) (drop (reach Level tokens) tokens) else None

-- the select has neither UNION nor another select outside its FROM clause
abbrev pub if_single : Pieces → Option Pieces
if_single select = if has begins_select select.items || has begins_select select.clauses then None else Some select

-- the select that begins here, if other selects are only in its FROM clause
abbrev pub select_at : List Token → Option Pieces
select_at tokens = pieces_at tokens >>= if_single
