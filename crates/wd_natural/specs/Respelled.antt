-- A query without NATURAL JOIN: a NATURAL JOIN b is a JOIN b USING the columns that both have. A FROM clause that is not read stays as it
-- is.
use Rattle.std.specs.Prelude.{ℕ, if◌then◌else◌, List, [], ◌++◌, take, drop, Option, Some, None, Result}
use Rattle.wd_lex.specs.declared.token.Token.{Token}
use Rattle.wd_schema.specs.Tables.{TableRule}
use Rattle.wd_clauses.specs.declared.error.RespellError.{RespellError}
use Rattle.wd_clauses.specs.declared.level.Stop.TheVariants.{Clause}
use Rattle.wd_clauses.specs.Reach.{reach}
use Rattle.wd_distinct_on.specs.Kinds.{begins, is_from}
use Rattle.wd_distinct_on.specs.Respelled.{◌>>=◌}
use Rattle.wd_distinct_on.specs.Selects.{respell_backwards}
use Rattle.wd_using.specs.Kinds.{has}
use Rattle.wd_natural.specs.Kinds.{is_natural}
use Rattle.wd_natural.specs.Naturals.{NaturalTable, joined_tables, most_tables}
use Rattle.wd_natural.specs.Written.{all_joined}

-- the tables of a FROM clause, if NATURAL is in it
abbrev pub tables_in : List TableRule → List Token → Option (List NaturalTable)
tables_in schema clause = if has is_natural clause then joined_tables schema most_tables clause else None

abbrev pub with_tables : List Token → List Token → List NaturalTable → Option (List Token)
with_tables front after tables = Some (front ++ all_joined [] tables ++ after)

-- what replaces a FROM clause between these tokens
abbrev pub respelled_clause : List TableRule → List Token → List Token → List Token → Option (List Token)
respelled_clause schema front clause after = tables_in schema clause >>= with_tables front after

abbrev pub respelled_after : List TableRule → List Token → List Token → Option (List Token)
respelled_after schema front tokens =
    if begins is_from tokens then respelled_clause schema front (take (reach Clause tokens) tokens) (drop (reach Clause tokens) tokens) else None

-- a query in which the FROM clause that begins at a place is respelled
unfoldable pub respell_at : List TableRule → ℕ → List Token → Option (List Token)
respell_at schema place tokens = respelled_after schema (take place tokens) (drop place tokens)

-- the most FROM clauses that are looked at (this project's choice)
abbrev pub most_clauses : ℕ
most_clauses = 128

-- a query without NATURAL JOIN
abbrev pub respelled : List TableRule → List Token → Result (List Token) RespellError
respelled schema tokens = respell_backwards (begins is_from) (respell_at schema) most_clauses tokens
