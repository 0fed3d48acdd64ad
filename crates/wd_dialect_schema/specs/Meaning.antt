-- The tables that the statements of a schema declare, in the profile's grammar of schemas.
use Rattle.std.specs.Prelude.{ℕ, ◌&&◌, ◌||◌, not, Bool, true, false, List, [], ◌∷◌, ◌++◌, map, Option, Some, None, if◌then◌else◌}
use Rattle.std.specs.List.{flat_map}
use Rattle.std.specs.Str.{bytes_eq}
use Rattle.wd_value.specs.declared.value.ColumnType.{ColumnType}
use Rattle.wd_value.specs.declared.value.ColumnType.TheVariants as profile
use Rattle.wd_read_cursor.specs.declared.name.Name.{Name}
use Rattle.wd_read_statements.specs.declared.syntax.KeyWords.{KeyWords}
use Rattle.wd_read_statements.specs.declared.syntax.KeyWords.TheVariants.{Primary, Unique}
use Rattle.wd_read_statements.specs.declared.syntax.Nulls.{Nulls}
use Rattle.wd_read_statements.specs.declared.syntax.Nulls.TheVariants.{Unsaid, Distinct, NotDistinct}
use Rattle.wd_read_statements.specs.Written.{ElementTree, Column, Key, TableTree}
use Rattle.wd_declaration.specs.Spelled.{rules_of, type_word}
use Rattle.wd_dialect_read.specs.declared.kind.ColumnKind.{ColumnKind}
use Rattle.wd_dialect_read.specs.declared.kind.ColumnKind.TheVariants as kind
use Rattle.wd_dialect_read.specs.declared.said.Mark.{Mark}
use Rattle.wd_dialect_read.specs.declared.said.Mark.TheVariants as mark
use Rattle.wd_dialect_read.specs.declared.said.Note.TheVariants as note
use Rattle.wd_dialect_read.specs.Said.{ColumnSaid, KeySaid, ItemSaid, StatementSaid}
use Rattle.wd_dialect_read.specs.Said as said

-- The profile's type of a column: dates as days, timestamps as microseconds, decimals with a scale as whole numbers of their last
-- place. Values that are only compared and sorted become texts.
abbrev pub type_of : ColumnKind → ColumnType
type_of kind.Small = profile.SmallInt
type_of kind.Whole = profile.Integer
type_of kind.Big = profile.BigInt
type_of kind.Boolean = profile.Boolean
type_of kind.Text = profile.Text
type_of kind.Date = profile.Integer
type_of kind.Timestamp = profile.BigInt
type_of (kind.Decimal (Some scale)) = profile.BigInt
type_of (kind.Decimal None) = profile.Text
type_of kind.Float = profile.Text
type_of kind.Opaque = profile.Text
type_of kind.Loose = profile.Text

abbrev pub is_not : Mark → Bool
is_not mark.Not = true
is_not _ = false

abbrev pub begins_null : List Mark → Bool
begins_null (mark.Null ∷ marks) = true
begins_null _ = false

-- whether NOT NULL is among the marks, which are outside brackets
abbrev pub says_not_null : List Mark → Bool
says_not_null [] = false
says_not_null (m ∷ marks) = (is_not m && begins_null marks) || says_not_null marks

abbrev pub is_deferrable : Mark → Bool
is_deferrable (mark.Passed note.Deferrable) = true
is_deferrable _ = false

-- whether DEFERRABLE is among the marks without NOT right before it; `after_not` says whether NOT comes right before the marks
abbrev pub says_deferrable : Bool → List Mark → Bool
says_deferrable after_not [] = false
says_deferrable after_not (m ∷ marks) = (is_deferrable m && not after_not) || says_deferrable (is_not m) marks

-- what UNIQUE says of NULLs, by the marks after it
abbrev pub nulls_said : List Mark → Nulls
nulls_said (mark.Nulls ∷ mark.Not ∷ mark.Distinct ∷ marks) = NotDistinct
nulls_said (mark.Nulls ∷ mark.Distinct ∷ marks) = Distinct
nulls_said _ = Unsaid

-- the key that a mark begins, by the marks after it
abbrev pub key_said : Mark → List Mark → Option KeyWords
key_said mark.Primary marks = Some Primary
key_said mark.Unique marks = Some (Unique (nulls_said marks))
key_said _ marks = None

-- a name in quotes
abbrev pub name_of : List ℕ → Name
name_of text = record { text = text; quoted = true }

abbrev pub key_of : KeyWords → List (List ℕ) → ElementTree
key_of words columns = Key (record { constraint = None; words = words; columns = map name_of columns })

abbrev pub key_before : List ℕ → Option KeyWords → List ElementTree → List ElementTree
key_before name (Some words) keys = key_of words (name ∷ []) ∷ keys
key_before name None keys = keys

-- the keys of a column with that name
abbrev pub keys_of : List ℕ → List Mark → List ElementTree
keys_of name [] = []
keys_of name (m ∷ marks) = key_before name (key_said m marks) (keys_of name marks)

-- A key that is DEFERRABLE holds only at the end of a transaction: it gives no key.
abbrev pub lasting : List Mark → List ElementTree → List ElementTree
lasting marks keys = if says_deferrable false marks then [] else keys

abbrev pub column_of : ColumnSaid → ElementTree
column_of c = Column (record { name = name_of c.name; kind = record { text = type_word (type_of c.kind); quoted = false }; rules = rules_of (says_not_null c.marks) })

-- an entry between two commas: a column and its keys, a key, or nothing
abbrev pub elements_of : ItemSaid → List ElementTree
elements_of (said.Column c) = column_of c ∷ lasting c.marks (keys_of c.name c.marks)
elements_of (said.Key k) = lasting k.marks (key_of k.words k.columns ∷ [])
elements_of (said.Passed note) = []

-- the columns and keys that statements add to the table with that name
abbrev pub added_by : List ℕ → StatementSaid → List ElementTree
added_by name (said.Changed table items) = if bytes_eq table name then flat_map elements_of items else []
added_by name (said.Table table items) = []
added_by name (said.Other note) = []

-- a table, if it has a column or a key
abbrev pub table_of : List ℕ → List ElementTree → List TableTree
table_of name [] = []
table_of name (element ∷ elements) = record { name = name_of name; elements = element ∷ elements } ∷ []

-- the table that a statement declares, with what other statements add to it
abbrev pub tables_by : List StatementSaid → StatementSaid → List TableTree
tables_by all (said.Table name items) = table_of name (flat_map elements_of items ++ flat_map (added_by name) all)
tables_by all (said.Changed name items) = []
tables_by all (said.Other note) = []

abbrev pub tables_of : List StatementSaid → List TableTree
tables_of statements = flat_map (tables_by statements) statements
