-- A query whose keys of GROUP BY are columns. A select is left as it is where its keys are columns already or lists of keys, where an
-- item stands for all columns, where a number is not that of an item, and where there are too many expressions.
use Rattle.std.specs.Prelude.{ℕ, ◌||◌, if◌then◌else◌, List, [], ◌∷◌, ◌++◌, take, drop, Option, Some, None, Result}
use Rattle.wd_lex.specs.declared.token.Token.{Token}
use Rattle.wd_clauses.specs.declared.error.RespellError.{RespellError}
use Rattle.wd_clauses.specs.Parts.{parts}
use Rattle.wd_distinct_on.specs.Kinds.{begins, is_select}
use Rattle.wd_distinct_on.specs.Respelled.{◌>>=◌}
use Rattle.wd_distinct_on.specs.Selects.{respell_backwards}
use Rattle.wd_using.specs.Pieces.{select_at}
use Rattle.wd_grouping.specs.Keys.{GroupKey, all_stay, have_names, keys_of}
use Rattle.wd_grouping.specs.Pieces.{GroupedPieces, OneTable, grouping_of, grouped_tables, one_table}
use Rattle.wd_grouping.specs.Replaced.{are_clear, have_star}
use Rattle.wd_grouping.specs.Written.{written, written_over}

-- the replacement of a select after these tokens, if the name of each item is clear
abbrev pub if_clear : List Token → GroupedPieces → List (List Token) → List GroupKey → OneTable → Option (List Token)
if_clear front select items keys one = if are_clear keys items then Some (front ++ written select one items keys) else None

abbrev pub over_tables : List Token → GroupedPieces → List (List Token) → List GroupKey → List Token → Option (List Token)
over_tables front select items keys [] = None
over_tables front select items keys (from ∷ tables) = if_clear front select items keys (grouped_tables from)

-- over its one table, or one table that replaces its several tables
abbrev pub over_table : List Token → GroupedPieces → List (List Token) → List GroupKey → Option OneTable → Option (List Token)
over_table front select items keys None = over_tables front select items keys select.select.tables
over_table front select items keys (Some one) = if_clear front select items keys one

abbrev pub with_keys : List Token → GroupedPieces → List (List Token) → List GroupKey → Option (List Token)
with_keys front select items keys =
    if have_names keys then over_table front select items keys (one_table select.select.tables) else Some (front ++ written_over select keys)

abbrev pub with_parts : List Token → GroupedPieces → List (List Token) → List (List Token) → Option (List Token)
with_parts front select items found = if all_stay found || have_star items then None else keys_of 0 items found >>= with_keys front select items

abbrev pub with_items : List Token → GroupedPieces → List (List Token) → Option (List Token)
with_items front select items = parts select.keys >>= with_parts front select items

-- the replacement of a select after these tokens
abbrev pub respelled_select : List Token → GroupedPieces → Option (List Token)
respelled_select front select = parts select.select.items >>= with_items front select

-- the select with GROUP BY that begins with the tokens
abbrev pub grouping_at : List Token → Option GroupedPieces
grouping_at tokens = select_at tokens >>= grouping_of

-- a query in which the select that begins at a place is respelled
unfoldable pub respell_at : ℕ → List Token → Option (List Token)
respell_at place tokens = grouping_at (drop place tokens) >>= respelled_select (take place tokens)

-- the most selects that are looked at (this project's choice)
abbrev pub most_selects : ℕ
most_selects = 128

-- a query whose keys of GROUP BY are columns
abbrev pub respelled : List Token → Result (List Token) RespellError
respelled tokens = respell_backwards (begins is_select) respell_at most_selects tokens
