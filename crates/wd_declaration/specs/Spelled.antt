-- How declarations of tables are spelled in the profile's grammar of schemas.
use Rattle.std.specs.Prelude.{ℕ, codes, Bool, true, false, List, [], ◌∷◌, map, None}
use Rattle.wd_value.specs.declared.value.ColumnType.{ColumnType}
use Rattle.wd_value.specs.declared.value.ColumnType.TheVariants.{SmallInt, Integer, BigInt, Text, Boolean}
use Rattle.wd_read_cursor.specs.declared.name.Name.{Name}
use Rattle.wd_read_statements.specs.declared.syntax.ColumnRule.{ColumnRule}
use Rattle.wd_read_statements.specs.declared.syntax.Rule.TheVariants as rule
use Rattle.wd_read_statements.specs.Grammar.{IsSchema, spell_schema}
use Rattle.wd_read_statements.specs.Written.{ColumnTree, KeyTree, ElementTree, Column, Key, TableTree, SchemaTree}
use Rattle.wd_schema.specs.declared.error.SchemaError.{SchemaError}
use Rattle.wd_schema.specs.Declares.{AllKeep, table_declared}
use Rattle.wd_schema.specs.Texts.{Declares}
use Rattle.wd_print.specs.Printed.{HasTokens}
use Rattle.wd_declaration.specs.declared.identifier.Identifier.{Identifier}
use Rattle.wd_declaration.specs.declared.declaration.DeclaredColumn.{DeclaredColumn}
use Rattle.wd_declaration.specs.declared.declaration.DeclaredKey.{DeclaredKey}
use Rattle.wd_declaration.specs.declared.declaration.DeclaredElement.{DeclaredElement}
use Rattle.wd_declaration.specs.declared.declaration.DeclaredElement.TheVariants as e
use Rattle.wd_declaration.specs.declared.declaration.Declaration.{Declaration}

-- a name in quotes
abbrev pub name_of : Identifier → Name
name_of name = record { text = name.text; quoted = true }

-- the name of a type
abbrev pub type_word : ColumnType → List ℕ
type_word SmallInt = codes "smallint"
type_word Integer = codes "integer"
type_word BigInt = codes "bigint"
type_word Text = codes "text"
type_word Boolean = codes "boolean"

-- NOT NULL, if the column is declared so
abbrev pub rules_of : Bool → List ColumnRule
rules_of true = record { constraint = None; rule = rule.NotNull } ∷ []
rules_of false = []

abbrev pub column_of : DeclaredColumn → ColumnTree
column_of column = record { name = name_of column.name; kind = record { text = type_word column.kind; quoted = false }; rules = rules_of column.not_null }

abbrev pub key_of : DeclaredKey → KeyTree
key_of key = record { constraint = None; words = key.words; columns = map name_of key.columns.items }

abbrev pub element_of : DeclaredElement → ElementTree
element_of (e.Column column) = Column (column_of column)
element_of (e.Key key) = Key (key_of key)

abbrev pub table_of : Declaration → TableTree
table_of table = record { name = name_of table.name; elements = map element_of table.elements.items }

abbrev pub tables_of : List Declaration → List TableTree
tables_of tables = map table_of tables

abbrev pub schema_of : List Declaration → SchemaTree
schema_of tables = record { tables = tables_of tables; ended = false }

-- The text spells the declarations: its tokens are those of their tree. So where nothing refuses the tree, the text declares just the
-- tables that the tree declares.
pub record Spells (text : List ℕ) (tables : List Declaration) : Type 0 where
  pub whole : IsSchema (schema_of tables)
  pub spelled : HasTokens text (spell_schema (schema_of tables))
  pub declares : ((refusal : SchemaError) → AllKeep refusal (tables_of tables)) → Declares text (map table_declared (tables_of tables))
