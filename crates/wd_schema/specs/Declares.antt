-- What a schema declares, and why it is refused.
use Rattle.std.specs.Prelude.{◌≡◌, ◌≢◌, ℕ, ◌≤◌, ◌&&◌, ◌||◌, Bool, true, false, codes, List, [], ◌∷◌, ◌++◌, map, length, count_by, Option, Some, None, is_some, All, AllPairs, Contains, if◌then◌else◌, ⊤}
use Rattle.std.specs.List.{list_any, position_or_len}
use Rattle.std.specs.Option.{option_map_or}
use Rattle.std.specs.Str.{bytes_eq}
use Rattle.wd_value.specs.declared.value.ColumnType.{ColumnType}
use Rattle.wd_value.specs.declared.value.ColumnType.TheVariants.{SmallInt, Integer, BigInt, Text, Boolean}
use Rattle.wd_schema.specs.declared.error.SchemaError.{SchemaError}
use Rattle.wd_schema.specs.declared.error.SchemaError.TheVariants.{Tokens, TableTwice, ColumnTwice, UnknownColumn, SecondPrimaryKey, KeyColumnTwice, TooMany, UnknownType, NullForbidden, Unexpected, OutOfMemory}
use Rattle.wd_schema.specs.declared.table.Column.{Column as TableColumn}
use Rattle.wd_read_statements.specs.declared.syntax.KeyWords.{KeyWords}
use Rattle.wd_read_statements.specs.declared.syntax.KeyWords.TheVariants.{Primary, Unique}
use Rattle.wd_read_statements.specs.declared.syntax.Nulls.TheVariants.{Unsaid, Distinct, NotDistinct}
use Rattle.wd_read_statements.specs.declared.syntax.Rule.{Rule}
use Rattle.wd_read_statements.specs.declared.syntax.Rule.TheVariants as rule
use Rattle.wd_read_statements.specs.declared.syntax.ColumnRule.{ColumnRule}
use Rattle.wd_schema.specs.Tables.{KeyRule, TableRule}
use Rattle.wd_read_statements.specs.Written.{ColumnTree, ElementTree, Column, Key, TableTree, name_text}

-- the types by their names in lower case
abbrev pub type_names : List (List ℕ × ColumnType)
type_names =
    (codes "smallint", SmallInt)
    ∷ (codes "int2", SmallInt)
    ∷ (codes "integer", Integer)
    ∷ (codes "int", Integer)
    ∷ (codes "int4", Integer)
    ∷ (codes "bigint", BigInt)
    ∷ (codes "int8", BigInt)
    ∷ (codes "text", Text)
    ∷ (codes "boolean", Boolean)
    ∷ (codes "bool", Boolean)
    ∷ []

-- the type that a table of names has for a name
abbrev pub type_in : List (List ℕ × ColumnType) → List ℕ → Option ColumnType
type_in [] name = None
type_in (entry ∷ entries) name = if bytes_eq entry.0 name then Some entry.1 else type_in entries name

abbrev pub type_named : List ℕ → Option ColumnType
type_named = type_in type_names

-- the columns of a table, in the order of the text
abbrev pub columns_of : List ElementTree → List ColumnTree
columns_of [] = []
columns_of (Column column ∷ elements) = column ∷ columns_of elements
columns_of (Key key ∷ elements) = columns_of elements

-- a key: its words, and the names of its columns
pub record SaidKey : Type 0 where
  pub words : KeyWords
  pub columns : List (List ℕ)

-- the keys among the rules of the column of that name
abbrev pub keys_of_rule : List ℕ → Rule → List SaidKey → List SaidKey
keys_of_rule name (rule.Key words) others = record { words = words; columns = name ∷ [] } ∷ others
keys_of_rule name rule.NotNull others = others
keys_of_rule name rule.Null others = others

abbrev pub keys_of_rules : List ℕ → List ColumnRule → List SaidKey
keys_of_rules name [] = []
keys_of_rules name (r ∷ rules) = keys_of_rule name r.rule (keys_of_rules name rules)

-- the keys of a table, in the order of the text: those among the rules of columns, and those that are elements themselves
abbrev pub keys_of : List ElementTree → List SaidKey
keys_of [] = []
keys_of (Column column ∷ elements) = keys_of_rules (name_text column.name) column.rules ++ keys_of elements
keys_of (Key key ∷ elements) = record { words = key.words; columns = map name_text key.columns } ∷ keys_of elements

abbrev pub is_primary : KeyWords → Bool
is_primary Primary = true
is_primary (Unique nulls) = false

-- UNIQUE takes NULLs as distinct unless it says NULLS NOT DISTINCT
abbrev pub takes_nulls_distinct : KeyWords → Bool
takes_nulls_distinct Primary = false
takes_nulls_distinct (Unique Unsaid) = true
takes_nulls_distinct (Unique Distinct) = true
takes_nulls_distinct (Unique NotDistinct) = false

abbrev pub says_not_null : Rule → Bool
says_not_null rule.NotNull = true
says_not_null rule.Null = false
says_not_null (rule.Key words) = false

abbrev pub says_null : Rule → Bool
says_null rule.NotNull = false
says_null rule.Null = true
says_null (rule.Key words) = false

-- the column of that name is in the primary key
abbrev pub is_in_primary : List SaidKey → List ℕ → Bool
is_in_primary keys name = list_any (λ key. is_primary key.words && list_any (bytes_eq name) key.columns) keys

-- a column is NOT NULL where it says so or is in the primary key
abbrev pub is_not_null : List SaidKey → ColumnTree → Bool
is_not_null keys column = list_any (λ r. says_not_null r.rule) column.rules || is_in_primary keys (name_text column.name)

-- the column says NULL but is NOT NULL
abbrev pub is_forbidden : List SaidKey → ColumnTree → Bool
is_forbidden keys column = list_any (λ r. says_null r.rule) column.rules && is_not_null keys column

-- the column that is declared; its type is known, or the table is refused
abbrev pub column_declared : List SaidKey → ColumnTree → TableColumn
column_declared keys column = record {
  name = name_text column.name;
  kind = option_map_or (λ kind. kind) (type_named (name_text column.kind)) Text;
  not_null = is_not_null keys column;
}

-- the names of the columns
abbrev pub names_of : List ElementTree → List (List ℕ)
names_of elements = map (λ column. name_text column.name) (columns_of elements)

abbrev pub column_names : TableTree → List (List ℕ)
column_names table = names_of table.elements

-- the number of the column of that name; the number of columns where none has it, as in a table that is refused
abbrev pub column_number : List (List ℕ) → List ℕ → ℕ
column_number names name = position_or_len (bytes_eq name) names

abbrev pub key_declared : List (List ℕ) → SaidKey → KeyRule
key_declared names key = record { columns = map (column_number names) key.columns; primary = is_primary key.words; nulls_distinct = takes_nulls_distinct key.words }

abbrev pub table_declared : TableTree → TableRule
table_declared table = record {
  name = name_text table.name;
  columns = map (column_declared (keys_of table.elements)) (columns_of table.elements);
  keys = map (key_declared (column_names table)) (keys_of table.elements);
}

-- ---- why a schema is refused: what its tables have to satisfy

-- 302: the names of its columns differ
abbrev pub ColumnsDiffer : TableTree → Type 0
ColumnsDiffer table = AllPairs (λ a b. a ≢ b) (column_names table)

-- 303: each key is over columns of the table
abbrev pub KeysNameColumns : TableTree → Type 0
KeysNameColumns table = All (λ key. All (Contains (column_names table)) key.columns) (keys_of table.elements)

-- 304: at most one primary key
abbrev pub HasOnePrimary : TableTree → Type 0
HasOnePrimary table = count_by (λ key. is_primary key.words) (keys_of table.elements) ≤ 1

-- 305: the columns of each key differ
abbrev pub KeyColumnsDiffer : TableTree → Type 0
KeyColumnsDiffer table = All (λ key. AllPairs (λ a b. a ≢ b) key.columns) (keys_of table.elements)

-- 306: at most 256 columns and 64 keys
abbrev pub IsSmall : TableTree → Type 0
IsSmall table = (length (columns_of table.elements) ≤ 256) × (length (keys_of table.elements) ≤ 64)

-- 307: each type is known
abbrev pub TypesAreKnown : TableTree → Type 0
TypesAreKnown table = All (λ column. is_some (type_named (name_text column.kind)) ≡ true) (columns_of table.elements)

-- 308: no column that is NOT NULL says NULL
abbrev pub NullsAreAllowed : TableTree → Type 0
NullsAreAllowed table = All (λ column. is_forbidden (keys_of table.elements) column ≡ false) (columns_of table.elements)

-- what a table has to satisfy, by the refusal that reports a violation
abbrev pub Keeps : SchemaError → TableTree → Type 0
Keeps ColumnTwice table = ColumnsDiffer table
Keeps UnknownColumn table = KeysNameColumns table
Keeps SecondPrimaryKey table = HasOnePrimary table
Keeps KeyColumnTwice table = KeyColumnsDiffer table
Keeps TooMany table = IsSmall table
Keeps UnknownType table = TypesAreKnown table
Keeps NullForbidden table = NullsAreAllowed table
Keeps TableTwice table = ⊤
Keeps (Tokens error) table = ⊤
Keeps (Unexpected place) table = ⊤
Keeps OutOfMemory table = ⊤

-- a table without a cause of a refusal
abbrev pub IsAllowed : TableTree → Type 0
IsAllowed table = (refusal : SchemaError) → Keeps refusal table

-- 301: the names of the tables differ
abbrev pub TablesDiffer : List TableTree → Type 0
TablesDiffer tables = AllPairs (λ a b. name_text a.name ≢ name_text b.name) tables

-- what the tables of a schema have to satisfy; for 306 also that they are at most 64
abbrev pub AllKeep : SchemaError → List TableTree → Type 0
AllKeep TableTwice tables = TablesDiffer tables
AllKeep TooMany tables = (length tables ≤ 64) × All IsSmall tables
AllKeep ColumnTwice tables = All ColumnsDiffer tables
AllKeep UnknownColumn tables = All KeysNameColumns tables
AllKeep SecondPrimaryKey tables = All HasOnePrimary tables
AllKeep KeyColumnTwice tables = All KeyColumnsDiffer tables
AllKeep UnknownType tables = All TypesAreKnown tables
AllKeep NullForbidden tables = All NullsAreAllowed tables
AllKeep (Tokens error) tables = ⊤
AllKeep (Unexpected place) tables = ⊤
AllKeep OutOfMemory tables = ⊤
