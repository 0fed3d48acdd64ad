-- Tokens of schemas as PostgreSQL's tools write them: types, brackets, and the words that begin what is passed over.
use Rattle.std.specs.Prelude.{ℕ, ◌+◌, ◌-◌, codes, Bool, true, false, List, [], ◌∷◌, Option, Some, None, if◌then◌else◌}
use Rattle.std.specs.Str.{bytes_eq}
use Rattle.wd_lex.specs.declared.token.Terminal.TheVariants as m
use Rattle.wd_lex.specs.declared.token.TokenKind.{TokenKind}
use Rattle.wd_lex.specs.declared.token.TokenKind.TheVariants as t
use Rattle.wd_dialect_read.specs.declared.kind.ColumnKind.{ColumnKind}
use Rattle.wd_dialect_read.specs.declared.kind.ColumnKind.TheVariants as kind
use Rattle.wd_dialect_read.specs.declared.kind.Modifier.{Modifier}
use Rattle.wd_dialect_read.specs.declared.kind.Modifier.TheVariants.{Nothing, One, Two, Array}
use Rattle.wd_dialect_read.specs.declared.said.Note.{Note}
use Rattle.wd_dialect_read.specs.declared.said.Note.TheVariants as note
use Rattle.wd_dialect_read.specs.declared.said.Mark.{Mark}
use Rattle.wd_dialect_read.specs.declared.said.Mark.TheVariants as mark

-- the types of PostgreSQL, by the first word of their names
abbrev pub kinds : List (List ℕ × ColumnKind)
kinds =
    (codes "smallint", kind.Small)
    ∷ (codes "int2", kind.Small)
    ∷ (codes "smallserial", kind.Small)
    ∷ (codes "integer", kind.Whole)
    ∷ (codes "int", kind.Whole)
    ∷ (codes "int4", kind.Whole)
    ∷ (codes "serial", kind.Whole)
    ∷ (codes "bigint", kind.Big)
    ∷ (codes "int8", kind.Big)
    ∷ (codes "bigserial", kind.Big)
    ∷ (codes "boolean", kind.Boolean)
    ∷ (codes "bool", kind.Boolean)
    ∷ (codes "text", kind.Text)
    ∷ (codes "varchar", kind.Text)
    ∷ (codes "character", kind.Text)
    ∷ (codes "char", kind.Text)
    ∷ (codes "national", kind.Text)
    ∷ (codes "nchar", kind.Text)
    ∷ (codes "name", kind.Text)
    ∷ (codes "date", kind.Date)
    ∷ (codes "timestamp", kind.Timestamp)
    ∷ (codes "timestamptz", kind.Timestamp)
    ∷ (codes "numeric", kind.Decimal None)
    ∷ (codes "decimal", kind.Decimal None)
    ∷ (codes "dec", kind.Decimal None)
    ∷ (codes "real", kind.Float)
    ∷ (codes "float4", kind.Float)
    ∷ (codes "double", kind.Float)
    ∷ (codes "float8", kind.Float)
    ∷ (codes "float", kind.Float)
    ∷ (codes "uuid", kind.Opaque)
    ∷ (codes "bytea", kind.Opaque)
    ∷ (codes "time", kind.Opaque)
    ∷ (codes "bit", kind.Opaque)
    ∷ (codes "inet", kind.Opaque)
    ∷ (codes "cidr", kind.Opaque)
    ∷ (codes "macaddr", kind.Opaque)
    ∷ []

-- the kind that a table has for a name; for other types, a kind whose equal values may look different
abbrev pub kind_in : List (List ℕ × ColumnKind) → List ℕ → ColumnKind
kind_in [] name = kind.Loose
kind_in (entry ∷ entries) name = if bytes_eq entry.0 name then entry.1 else kind_in entries name

unfoldable pub kind_named : List ℕ → ColumnKind
kind_named name = kind_in kinds name

-- the kind of a type, with one number in the brackets after its name: for a decimal it is the number of digits, for a text that of
-- characters; for others it is the length of an array
abbrev pub with_one : ColumnKind → ColumnKind
with_one (kind.Decimal scale) = kind.Decimal (Some 0)
with_one kind.Text = kind.Text
with_one kind.Timestamp = kind.Timestamp
with_one kind.Float = kind.Float
with_one kind.Loose = kind.Loose
with_one _ = kind.Opaque

-- the kind of a type with two numbers in the brackets: for a decimal the second is its scale
abbrev pub with_two : ℕ → ColumnKind → ColumnKind
with_two scale (kind.Decimal other) = kind.Decimal (Some scale)
with_two scale _ = kind.Opaque

-- the kind of a type, by what is in brackets after its name
abbrev pub with_modifier : ColumnKind → Modifier → ColumnKind
with_modifier found Nothing = found
with_modifier found (One number) = with_one found
with_modifier found (Two number scale) = with_two scale found
with_modifier found Array = kind.Opaque

-- an array has values that are only compared and sorted
abbrev pub with_array : Bool → ColumnKind → ColumnKind
with_array true found = kind.Opaque
with_array false found = found

-- whether a token is this word
abbrev pub is_text : List ℕ → TokenKind → Bool
is_text word (t.Word text) = bytes_eq text word
is_text word _ = false

-- the further words of the names of types
abbrev pub type_words : List (List ℕ)
type_words = codes "precision" ∷ codes "varying" ∷ codes "character" ∷ codes "char" ∷ codes "without" ∷ codes "time" ∷ codes "zone" ∷ codes "year" ∷ codes "month" ∷ codes "day" ∷ codes "hour" ∷ codes "minute" ∷ codes "second" ∷ codes "to" ∷ []

-- the words between CREATE and TABLE
abbrev pub table_words : List (List ℕ)
table_words = codes "global" ∷ codes "local" ∷ codes "temporary" ∷ codes "temp" ∷ codes "unlogged" ∷ []

abbrev pub has_word : List (List ℕ) → List ℕ → Bool
has_word [] text = false
has_word (word ∷ words) text = if bytes_eq word text then true else has_word words text

-- whether a token is one of these words
abbrev pub is_among : List (List ℕ) → TokenKind → Bool
is_among words (t.Word text) = has_word words text
is_among words _ = false

-- whether a token ends an entry between two commas: a comma, a closing bracket or a semicolon
abbrev pub ends_item : TokenKind → Bool
ends_item (t.Terminal m.Comma) = true
ends_item (t.Terminal m.RightBracket) = true
ends_item (t.Terminal m.Semicolon) = true
ends_item _ = false

-- how many brackets are open after a token; CASE and END are a pair of brackets
abbrev pub depth_after : ℕ → TokenKind → ℕ
depth_after depth (t.Terminal m.LeftBracket) = depth + 1
depth_after depth (t.Terminal m.Case) = depth + 1
depth_after depth (t.Terminal m.RightBracket) = depth - 1
depth_after depth (t.Terminal m.End) = depth - 1
depth_after depth _ = depth

-- the words that begin what is passed over after a column's type
abbrev pub column_notes : List (List ℕ × Note)
column_notes =
    (codes "default", note.Default)
    ∷ (codes "check", note.Check)
    ∷ (codes "references", note.References)
    ∷ (codes "generated", note.Generated)
    ∷ (codes "collate", note.Collate)
    ∷ (codes "storage", note.Storage)
    ∷ (codes "compression", note.Storage)
    ∷ (codes "deferrable", note.Deferrable)
    ∷ (codes "deferred", note.Deferrable)
    ∷ []

-- the words that begin what is passed over between two commas; EXCLUDE may be a name too
abbrev pub table_notes : List (List ℕ × Note)
table_notes = (codes "check", note.Check) ∷ (codes "foreign", note.References) ∷ (codes "like", note.Like) ∷ []

abbrev pub note_in : List (List ℕ × Note) → List ℕ → Option Note
note_in [] word = None
note_in (entry ∷ entries) word = if bytes_eq entry.0 word then Some entry.1 else note_in entries word

abbrev pub mark_of_note : Option Note → Mark
mark_of_note (Some found) = mark.Passed found
mark_of_note None = mark.Other

abbrev pub mark_of_word : List ℕ → Mark
mark_of_word word = if bytes_eq word (codes "nulls") then mark.Nulls else mark_of_note (note_in column_notes word)

-- what a token says after a column's type
abbrev pub mark_of : TokenKind → Mark
mark_of (t.Terminal m.Not) = mark.Not
mark_of (t.Terminal m.Null) = mark.Null
mark_of (t.Terminal m.Primary) = mark.Primary
mark_of (t.Terminal m.Unique) = mark.Unique
mark_of (t.Terminal m.Distinct) = mark.Distinct
mark_of (t.Terminal m.Constraint) = mark.Constraint
mark_of (t.Word word) = mark_of_word word
mark_of _ = mark.Other

-- whether a rule of a column begins with this mark
abbrev pub begins_rule : Mark → Bool
begins_rule mark.Not = true
begins_rule mark.Null = true
begins_rule mark.Primary = true
begins_rule mark.Unique = true
begins_rule mark.Constraint = true
begins_rule (mark.Passed found) = true
begins_rule _ = false
