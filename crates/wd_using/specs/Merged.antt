-- The columns that USING merges, and the table that each is attributed to. Of the tables that have such a column each one but the first
-- is joined USING it, and no other table is: so to the left of each USING exactly one column has the name, merged or not.
use Rattle.std.specs.Prelude.{ℕ, not, if◌then◌else◌, Bool, true, false, List, [], ◌∷◌, ◌++◌, Option, Some, None}
use Rattle.wd_lex.specs.declared.token.TokenKind.{TokenKind}
use Rattle.wd_lex.specs.declared.token.Token.{Token}
use Rattle.wd_clauses.specs.Names.{is_named, is_same_name}
use Rattle.wd_distinct_on.specs.Lists.{with_front}
use Rattle.wd_using.specs.Joins.{JoinedTable}

-- a merged column, and the alias of its table
pub record MergedColumn : Type 0 where
  pub name : Token
  pub table : Token

abbrev pub has_column : TokenKind → List (List ℕ) → Bool
has_column name [] = false
has_column name (column ∷ columns) = if is_named column name then true else has_column name columns

abbrev pub has_name : TokenKind → List Token → Bool
has_name name [] = false
has_name name (other ∷ names) = if is_same_name other.kind name then true else has_name name names

-- a table is joined USING a column exactly if it has the column
abbrev pub is_joined_by : TokenKind → JoinedTable → Bool
is_joined_by name table = if has_column name table.columns then has_name name table.condition.names else not (has_name name table.condition.names)

abbrev pub are_joined_by : TokenKind → List JoinedTable → Bool
are_joined_by name [] = true
are_joined_by name (table ∷ tables) = if is_joined_by name table then are_joined_by name tables else false

-- the first table that has the column, if it is clear which one that is
abbrev pub first_with : TokenKind → List JoinedTable → Option Token
first_with name [] = None
first_with name (table ∷ tables) =
    if has_name name table.condition.names then None
    else (if has_column name table.columns then (if are_joined_by name tables then Some table.alias else None) else first_with name tables)

abbrev pub with_merged : Token → Option Token → Option (List MergedColumn) → Option (List MergedColumn)
with_merged name None merged = None
with_merged name (Some table) merged = with_front (record { name = name; table = table }) merged

-- the merged columns of these names, if each is clear
abbrev pub merge_of : List JoinedTable → List Token → Option (List MergedColumn)
merge_of tables [] = Some []
merge_of tables (name ∷ names) = with_merged name (first_with name.kind tables) (merge_of tables names)

-- the columns of each USING
abbrev pub names_in : List JoinedTable → List Token
names_in [] = []
names_in (table ∷ tables) = table.condition.names ++ names_in tables

-- the table of a merged column
abbrev pub table_of : TokenKind → List MergedColumn → Option Token
table_of name [] = None
table_of name (column ∷ merged) = if is_same_name column.name.kind name then Some column.table else table_of name merged
