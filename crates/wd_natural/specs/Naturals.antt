-- The tables of a FROM clause in which tables are joined by [INNER] JOIN, each ON a condition or USING columns, and by NATURAL [INNER]
-- JOIN. A FROM clause with another kind of join, a comma between tables, or a table with unknown columns is not read.
use Rattle.std.specs.Prelude.{ℕ, zero, suc, ◌||◌, ◌&&◌, not, if◌then◌else◌, nat_lt, Bool, List, [], ◌∷◌, length, take, drop, Option, Some, None}
use Rattle.wd_lex.specs.declared.token.Token.{Token}
use Rattle.wd_schema.specs.Tables.{TableRule}
use Rattle.wd_distinct_on.specs.Kinds.{begins}
use Rattle.wd_distinct_on.specs.Lists.{with_front}
use Rattle.wd_distinct_on.specs.Respelled.{◌>>=◌}
use Rattle.wd_using.specs.declared.level.Extent.TheVariants.{Table}
use Rattle.wd_using.specs.Joins.{Source, ends, is_end, source_at}
use Rattle.wd_using.specs.Kinds.{begins_table, is_inner}
use Rattle.wd_using.specs.Reach.{reach}
use Rattle.wd_natural.specs.Kinds.{begins_condition, is_join, is_natural}

-- NATURAL, if it is written, FROM or JOIN, and the tokens after them
pub record Head : Type 0 where
  pub natural : Option Token
  pub join : Token
  pub after : List Token

-- a table as it is joined: NATURAL, if it is written, FROM or JOIN, the table with its alias, its columns, and what follows it: a
-- condition, or INNER before the next JOIN
pub record NaturalTable : Type 0 where
  pub natural : Option Token
  pub join : Token
  pub table : List Token
  pub columns : List (List ℕ)
  pub rest : List Token

abbrev pub after_inner : List Token → List Token
after_inner [] = []
after_inner (word ∷ tokens) = if is_inner word.kind then tokens else word ∷ tokens

-- JOIN after NATURAL
abbrev pub natural_head : Token → List Token → Option Head
natural_head word [] = None
natural_head word (join ∷ tokens) = if is_join join.kind then Some (record { natural = Some word; join = join; after = tokens }) else None

-- NATURAL [INNER] JOIN, or FROM, or JOIN
abbrev pub head_at : List Token → Option Head
head_at [] = None
head_at (word ∷ tokens) =
    if is_natural word.kind then natural_head word (after_inner tokens)
    else (if begins_table word.kind then Some (record { natural = None; join = word; after = tokens }) else None)

-- nothing, or INNER before the next JOIN, comes after a table or its condition; a NATURAL JOIN has no condition
abbrev pub fits : Option Token → List Token → Bool
fits None rest = ends rest || begins begins_condition rest
fits (Some natural) rest = ends rest

-- the most columns of a table (this project's choice)
abbrev pub most_columns : ℕ
most_columns = 128

abbrev pub is_read : NaturalTable → Bool
is_read table = fits table.natural table.rest && not (nat_lt most_columns (length table.columns))

abbrev pub if_read : NaturalTable → Option NaturalTable
if_read table = if is_read table then Some table else None

abbrev pub with_source : Head → List Token → Source → NaturalTable
with_source head tokens source = record {
  natural = head.natural;
  join = head.join;
  table = take source.alias.count tokens;
  columns = source.columns;
  rest = drop source.alias.count tokens;
}

-- a table, its alias, and the tokens after it
abbrev pub join_at : List TableRule → Head → List Token → Option NaturalTable
join_at schema head tokens = source_at schema tokens >>= λ source. if_read (with_source head tokens source)

abbrev pub with_after : List Token → NaturalTable → Option (NaturalTable × List Token)
with_after after table = Some (table, after)

-- a table with the words that join it, and the tokens after it
abbrev pub after_head : List TableRule → Head → Option (NaturalTable × List Token)
after_head schema head = join_at schema head (take (reach Table head.after) head.after) >>= with_after (drop (reach Table head.after) head.after)

unfoldable pub table_at : List TableRule → List Token → Option (NaturalTable × List Token)
table_at schema tokens = head_at tokens >>= after_head schema

-- the most tables of a FROM clause (this project's choice)
abbrev pub most_tables : ℕ
most_tables = 32

abbrev pub with_next : (List Token → Option (List NaturalTable)) → NaturalTable → List Token → Option (List NaturalTable)
with_next further table after = if is_end after then Some (table ∷ []) else with_front table (further after)

abbrev pub with_further : (List Token → Option (List NaturalTable)) → Option (NaturalTable × List Token) → Option (List NaturalTable)
with_further further None = None
with_further further (Some found) = with_next further found.0 found.1

-- the tables of a FROM clause, at most the given number
unfoldable pub joined_tables : List TableRule → ℕ → List Token → Option (List NaturalTable)
joined_tables schema zero tokens = None
joined_tables schema (suc more) tokens = with_further (joined_tables schema more) (table_at schema tokens)
