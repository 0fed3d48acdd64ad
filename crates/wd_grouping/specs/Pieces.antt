-- The pieces of SELECT [DISTINCT] items FROM tables [WHERE ..] GROUP BY keys [HAVING ..] .., and the one table of a FROM clause.
use Rattle.std.specs.Prelude.{ℕ, codes, ◌+◌, ◌==◌, ◌&&◌, if◌then◌else◌, List, [], ◌∷◌, length, take, drop, Option, Some, None}
use Rattle.wd_lex.specs.declared.token.Token.{Token}
use Rattle.wd_clauses.specs.declared.level.Stop.TheVariants.{Later}
use Rattle.wd_clauses.specs.Names.{is_name}
use Rattle.wd_clauses.specs.Reach.{closing, opens, reach}
use Rattle.wd_distinct_on.specs.Kinds.{is_by}
use Rattle.wd_distinct_on.specs.Written.{added_name}
use Rattle.wd_using.specs.Joins.{Alias, alias_at}
use Rattle.wd_using.specs.Pieces.{Pieces}
use Rattle.wd_grouping.specs.Kinds.{is_group}

-- a select, its WHERE clause, its keys after GROUP BY, and the clauses after them
pub record GroupedPieces : Type 0 where
  pub select : Pieces
  pub condition : List Token
  pub group : Token
  pub by : Token
  pub keys : List Token
  pub later : List Token

-- the select, by GROUP BY after the WHERE clause
abbrev pub with_keys : Pieces → List Token → List Token → Option GroupedPieces
with_keys select condition (group ∷ by ∷ tokens) =
    if is_group group.kind && is_by by.kind then Some (record { select = select; condition = condition; group = group; by = by; keys = take (reach Later tokens) tokens; later = drop (reach Later tokens) tokens })
    else None
with_keys select condition tokens = None

-- a select with GROUP BY
abbrev pub grouping_of : Pieces → Option GroupedPieces
grouping_of select = with_keys select (take (reach Later select.clauses) select.clauses) (drop (reach Later select.clauses) select.clauses)

-- FROM, the name under which the columns of its one table are known, and that name again where the table replaces several tables
pub record OneTable : Type 0 where
  pub from : Token
  pub alias : Token
  pub qualifier : Option Token

-- a table, if it and its alias are all that the clause has
abbrev pub if_all : Token → ℕ → Alias → Option OneTable
if_all from count alias = if alias.count == count then Some (record { from = from; alias = alias.name; qualifier = None }) else None

-- [AS] alias after a query in brackets
abbrev pub after_query : Token → Token → List Token → Option OneTable
after_query from bracket [] = None
after_query from bracket (word ∷ tokens) = if_all from (length (word ∷ tokens) + 1) (alias_at bracket (word ∷ tokens))

abbrev pub derived_table : Token → Token → List Token → Option ℕ → Option OneTable
derived_table from bracket tokens None = None
derived_table from bracket tokens (Some place) = after_query from bracket (drop (place + 1) tokens)

-- FROM with a table or a query in brackets, its alias, and nothing else
abbrev pub one_table : List Token → Option OneTable
one_table (from ∷ first ∷ tokens) =
    if opens first.kind then derived_table from first tokens (closing tokens)
    else (if is_name first.kind then if_all from (length tokens + 1) (alias_at first tokens) else None)
one_table tokens = None

-- a table with this name, which replaces the several tables after FROM
abbrev pub tables_called : Token → Token → OneTable
tables_called from alias = record { from = from; alias = alias; qualifier = Some alias }

-- the table that replaces several is called "grouped"
abbrev pub grouped_tables : Token → OneTable
grouped_tables from = tables_called from (added_name (codes "grouped") from)
