-- A query without COUNT( DISTINCT c ). A select is left as it is where it has another aggregate, where two such calls have different
-- columns, where a key is no column, and over several tables where a column written with its table is neither a key nor c. Where c is a
-- key too, or two keys have one name, the profile refuses what is written.
use Rattle.std.specs.Prelude.{ℕ, ◌&&◌, if◌then◌else◌, Bool, true, false, List, [], ◌∷◌, ◌++◌, take, drop, Option, Some, None, Result}
use Rattle.wd_lex.specs.declared.token.Token.{Token}
use Rattle.wd_clauses.specs.declared.error.RespellError.{RespellError}
use Rattle.wd_distinct_on.specs.Kinds.{begins, is_select}
use Rattle.wd_distinct_on.specs.Respelled.{◌>>=◌, parts_in}
use Rattle.wd_distinct_on.specs.Selects.{respell_backwards}
use Rattle.wd_using.specs.Pieces.{Pieces, select_at}
use Rattle.wd_grouping.specs.Keys.{is_column}
use Rattle.wd_grouping.specs.Pieces.{OneTable, grouped_tables, one_table}
use Rattle.wd_distinct_counts.specs.Counts.{are_theirs, column_in}
use Rattle.wd_distinct_counts.specs.Pieces.{Grouping, grouping_of}
use Rattle.wd_distinct_counts.specs.Written.{written}

abbrev pub are_columns : List (List Token) → Bool
are_columns [] = true
are_columns (key ∷ keys) = if is_column key then are_columns keys else false

-- each column that is written with its table is one of these
abbrev pub are_known : Pieces → Grouping → List (List Token) → Bool
are_known select grouping columns = are_theirs columns select.items && are_theirs columns grouping.later

-- what is written over several tables, if each column that is written with its table is a key or the counted column
abbrev pub over_tables : List Token → Pieces → Grouping → List Token → List (List Token) → List Token → Option (List Token)
over_tables front select grouping column keys [] = None
over_tables front select grouping column keys (from ∷ tables) =
    if are_known select grouping (column ∷ keys) then Some (front ++ written select grouping (grouped_tables from) column) else None

abbrev pub over_table : List Token → Pieces → Grouping → List Token → List (List Token) → Option OneTable → Option (List Token)
over_table front select grouping column keys None = over_tables front select grouping column keys select.tables
over_table front select grouping column keys (Some one) = Some (front ++ written select grouping one column)

-- the replacement of a select after these tokens, if its keys are columns
abbrev pub if_columns : List Token → Pieces → Grouping → List Token → List (List Token) → Option (List Token)
if_columns front select grouping column keys = if are_columns keys then over_table front select grouping column keys (one_table select.tables) else None

abbrev pub with_column : List Token → Pieces → Grouping → List Token → Option (List Token)
with_column front select grouping column = parts_in grouping.keys >>= if_columns front select grouping column

-- the one column that is counted in the items and in the clauses after GROUP BY, if any
abbrev pub column_of : Pieces → Grouping → Option (Option (List Token))
column_of select grouping = column_in None select.select.kind select.items >>= λ so_far. column_in so_far select.select.kind grouping.later

abbrev pub if_counted : List Token → Pieces → Grouping → Option (List Token) → Option (List Token)
if_counted front select grouping found = found >>= with_column front select grouping

abbrev pub with_grouping : List Token → Pieces → Grouping → Option (List Token)
with_grouping front select grouping = column_of select grouping >>= if_counted front select grouping

-- the replacement of a select after these tokens
abbrev pub respelled_select : List Token → Pieces → Option (List Token)
respelled_select front select = with_grouping front select (grouping_of select.clauses)

-- a query in which the select that begins at a place is respelled
unfoldable pub respell_at : ℕ → List Token → Option (List Token)
respell_at place tokens = select_at (drop place tokens) >>= respelled_select (take place tokens)

-- the most selects that are looked at (this project's choice)
abbrev pub most_selects : ℕ
most_selects = 128

-- a query without COUNT( DISTINCT c )
abbrev pub respelled : List Token → Result (List Token) RespellError
respelled tokens = respell_backwards (begins is_select) respell_at most_selects tokens
