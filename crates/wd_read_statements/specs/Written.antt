-- Schemas as they are written, as pure data.
use Rattle.std.specs.Prelude.{ℕ, List, Option, Bool, map}
use Rattle.wd_read_cursor.specs.declared.name.Name.{Name}
use Rattle.wd_read_statements.specs.declared.syntax.KeyWords.{KeyWords}
use Rattle.wd_read_statements.specs.declared.syntax.ColumnRule.{ColumnRule}
use Rattle.wd_read_statements.specs.declared.syntax.WrittenColumn.{WrittenColumn}
use Rattle.wd_read_statements.specs.declared.syntax.WrittenKey.{WrittenKey}
use Rattle.wd_read_statements.specs.declared.syntax.WrittenTable.{WrittenTable}
use Rattle.wd_read_statements.specs.declared.syntax.Element.{Element}
use Rattle.wd_read_statements.specs.declared.syntax.Element.TheVariants as e

-- a column: its name, the name of its type, and its rules
pub record ColumnTree : Type 0 where
  pub name : Name
  pub kind : Name
  pub rules : List ColumnRule

-- a key that is an element of its own: the constraint's name, its words, and the names of its columns
pub record KeyTree : Type 0 where
  pub constraint : Option Name
  pub words : KeyWords
  pub columns : List Name

-- an element between the brackets of a table
pub data ElementTree : Type 0 where
  Column : ColumnTree → ElementTree
  Key : KeyTree → ElementTree

-- a table: its name, and its columns and keys
pub record TableTree : Type 0 where
  pub name : Name
  pub elements : List ElementTree

-- a schema: its tables, and whether a semicolon comes after the last
pub record SchemaTree : Type 0 where
  pub tables : List TableTree
  pub ended : Bool

-- the bytes of a name
abbrev pub name_text : Name → List ℕ
name_text name = name.text

abbrev pub column_tree : WrittenColumn → ColumnTree
column_tree c = record { name = c.name; kind = c.kind; rules = c.rules.items }

abbrev pub key_tree : WrittenKey → KeyTree
key_tree k = record { constraint = k.constraint; words = k.words; columns = k.columns.items }

abbrev pub element_tree : Element → ElementTree
element_tree (e.Column c) = Column (column_tree c)
element_tree (e.Key k) = Key (key_tree k)

abbrev pub table_tree : WrittenTable → TableTree
table_tree t = record { name = t.name; elements = map element_tree t.elements.items }

abbrev pub schema_tree : List WrittenTable → Bool → SchemaTree
schema_tree tables ended = record { tables = map table_tree tables; ended = ended }
