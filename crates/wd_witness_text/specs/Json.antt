-- The JSON value and the text of a witness.
use Rattle.std.specs.Prelude.{ℕ, List, [], ◌∷◌, codes}
use Rattle.serde_json.specs.Data.{Data, null, boolean, number, string, object, Members, no_members, member}
use Rattle.serde_json.specs.Find.{of_integer}
use Rattle.serde_json.specs.Written.{compact_text}
use Rattle.wd_json.specs.Json.{number_json, list_json, IsJsonOf}
use Rattle.wd_value.specs.declared.value.Value.{Value}
use Rattle.wd_value.specs.declared.value.Value.TheVariants.{Null, Int, Text, Bool as Truth}
use Rattle.wd_value.specs.Rows.{Row}
use Rattle.wd_witness_text.specs.Witnesses.{TableRows, WitnessRecord}

-- null, a whole number, a text, or true or false
abbrev pub value_json : Value → Data
value_json Null = null
value_json (Int n) = number (of_integer n)
value_json (Text bytes) = string bytes
value_json (Truth b) = boolean b

-- a row: its values in the order of the table's columns
abbrev pub row_json : Row → Data
row_json row = list_json value_json row

-- a table's rows
abbrev pub rows_json : List Row → Data
rows_json rows = list_json row_json rows

-- the tables' rows, each under its table's name
abbrev pub table_members : List TableRows → Members
table_members [] = no_members
table_members (t ∷ tables) = member t.name (rows_json t.rows) (table_members tables)

abbrev pub tables_json : List TableRows → Data
tables_json tables = object (table_members tables)

-- a choice: its orderings, each the list of its positions
abbrev pub choice_json : List (List ℕ) → Data
choice_json orderings = list_json (λ positions. list_json number_json positions) orderings

-- an object of exactly a witness's three members
abbrev pub witness_members_json : Data → Data → Data → Data
witness_members_json first second tables = object (member (codes "first") first (member (codes "second") second (member (codes "tables") tables no_members)))

-- a witness: its two choices and its tables
abbrev pub witness_json : WitnessRecord → Data
witness_json w = witness_members_json (choice_json w.first) (choice_json w.second) (tables_json w.tables)

-- the text of a witness: JSON without white space
abbrev pub witness_text : WitnessRecord → List ℕ
witness_text w = compact_text (witness_json w)

-- the bytes spell the witness
abbrev pub Spells : WitnessRecord → List ℕ → Type 0
Spells w bytes = IsJsonOf (witness_json w) bytes
