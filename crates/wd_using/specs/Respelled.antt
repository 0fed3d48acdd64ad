-- A query without USING. FROM a JOIN b USING ( k ) is FROM a JOIN b ON a.k = b.k, and k is a.k in each clause of the select. A select
-- stays as it is where its tables or the table of a merged column are not clear, where an item stands for all columns, or where an item
-- may have the name of a merged column by AS, after its value, or after a function.
use Rattle.std.specs.Prelude.{ℕ, ◌&&◌, ◌||◌, if◌then◌else◌, nat_lt, Bool, true, false, List, [], ◌∷◌, ◌++◌, length, take, drop, Option, Some, None, Result}
use Rattle.wd_lex.specs.declared.token.TokenKind.{TokenKind}
use Rattle.wd_lex.specs.declared.token.Token.{Token}
use Rattle.wd_schema.specs.Tables.{TableRule}
use Rattle.wd_clauses.specs.declared.error.RespellError.{RespellError}
use Rattle.wd_distinct_on.specs.Kinds.{begins, is_select}
use Rattle.wd_distinct_on.specs.Respelled.{◌>>=◌}
use Rattle.wd_distinct_on.specs.Selects.{respell_backwards}
use Rattle.wd_with.specs.Derived.{goes_on}
use Rattle.wd_using.specs.Kinds.{begins_columns, ends_value, is_star}
use Rattle.wd_using.specs.Joins.{JoinedTable, joined_tables, most_tables}
use Rattle.wd_using.specs.Merged.{MergedColumn, merge_of, names_in, table_of}
use Rattle.wd_using.specs.Pieces.{Pieces, select_at}
use Rattle.wd_using.specs.Written.{written}

abbrev pub is_found : Option Token → Bool
is_found None = false
is_found (Some table) = true

-- a name is that of an item, by AS or after its value, or that of a function, whose name an item may have
abbrev pub may_name_item : TokenKind → List Token → Bool
may_name_item before after = ends_value before || begins goes_on after

-- a star stands for columns, or an item may have the name of a merged column
abbrev pub is_unclear : List MergedColumn → TokenKind → Token → List Token → Bool
is_unclear merged before token after = (is_star token.kind && begins_columns before) || (may_name_item before after && is_found (table_of token.kind merged))

-- no item stands for all columns or may have the name of a merged column
abbrev pub are_clear : List MergedColumn → TokenKind → List Token → Bool
are_clear merged before [] = true
are_clear merged before (token ∷ after) = if is_unclear merged before token after then false else are_clear merged token.kind after

-- the most merged columns of a select (this project's choice)
abbrev pub most_merged : ℕ
most_merged = 64

-- at least one merged column, and not too many
abbrev pub are_few : List MergedColumn → Bool
are_few [] = false
are_few (column ∷ merged) = nat_lt (length merged) most_merged

-- what replaces a select after these tokens, if its items are clear
abbrev pub if_clear : List Token → Pieces → List JoinedTable → List MergedColumn → Option (List Token)
if_clear front select tables merged = if are_few merged && are_clear merged select.select.kind select.items then Some (front ++ written merged tables select) else None

abbrev pub with_tables : List Token → Pieces → List JoinedTable → Option (List Token)
with_tables front select tables = merge_of tables (names_in tables) >>= λ merged. if_clear front select tables merged

-- what replaces a select after these tokens
abbrev pub respelled_select : List TableRule → List Token → Pieces → Option (List Token)
respelled_select schema front select = joined_tables schema most_tables select.tables >>= λ tables. with_tables front select tables

-- a query in which the select that begins at a place is respelled
unfoldable pub respell_at : List TableRule → ℕ → List Token → Option (List Token)
respell_at schema place tokens = select_at (drop place tokens) >>= λ select. respelled_select schema (take place tokens) select

-- the most selects that are looked at (this project's choice)
abbrev pub most_selects : ℕ
most_selects = 128

-- a query without USING
abbrev pub respelled : List TableRule → List Token → Result (List Token) RespellError
respelled schema tokens = respell_backwards (begins is_select) (respell_at schema) most_selects tokens
