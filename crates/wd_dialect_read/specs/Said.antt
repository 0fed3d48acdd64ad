-- Statements as they are read, as pure data.
use Rattle.std.specs.Prelude.{ℕ, List, map}
use Rattle.wd_declaration.specs.declared.identifier.Identifier.{Identifier}
use Rattle.wd_read_statements.specs.declared.syntax.KeyWords.{KeyWords}
use Rattle.wd_dialect_read.specs.declared.kind.ColumnKind.{ColumnKind}
use Rattle.wd_dialect_read.specs.declared.said.Mark.{Mark}
use Rattle.wd_dialect_read.specs.declared.said.Note.{Note}
use Rattle.wd_dialect_read.specs.declared.said.SaidColumn.{SaidColumn}
use Rattle.wd_dialect_read.specs.declared.said.SaidKey.{SaidKey}
use Rattle.wd_dialect_read.specs.declared.said.Item.{Item}
use Rattle.wd_dialect_read.specs.declared.said.Item.TheVariants as i
use Rattle.wd_dialect_read.specs.declared.said.Statement.{Statement}
use Rattle.wd_dialect_read.specs.declared.said.Statement.TheVariants as s

-- a column: its name, its kind, and what comes after its type
pub record ColumnSaid : Type 0 where
  pub name : List ℕ
  pub kind : ColumnKind
  pub marks : List Mark

-- a key: its words, the names of its columns, and what comes after them
pub record KeySaid : Type 0 where
  pub words : KeyWords
  pub columns : List (List ℕ)
  pub marks : List Mark

pub data ItemSaid : Type 0 where
  Column : ColumnSaid → ItemSaid
  Key : KeySaid → ItemSaid
  Passed : Note → ItemSaid

pub data StatementSaid : Type 0 where
  Table : List ℕ → List ItemSaid → StatementSaid
  Changed : List ℕ → List ItemSaid → StatementSaid
  Other : Note → StatementSaid

-- the bytes of a name
abbrev pub identifier_text : Identifier → List ℕ
identifier_text name = name.text

abbrev pub column_said : SaidColumn → ColumnSaid
column_said c = record { name = identifier_text c.name; kind = c.kind; marks = c.marks.items }

abbrev pub key_said : SaidKey → KeySaid
key_said k = record { words = k.words; columns = map identifier_text k.columns.items; marks = k.marks.items }

abbrev pub item_said : Item → ItemSaid
item_said (i.Column c) = Column (column_said c)
item_said (i.Key k) = Key (key_said k)
item_said (i.Passed note) = Passed note

abbrev pub statement_said : Statement → StatementSaid
statement_said (s.Table t) = Table (identifier_text t.name) (map item_said t.items.items)
statement_said (s.Changed t) = Changed (identifier_text t.name) (map item_said t.items.items)
statement_said (s.Passed note) = Other note
