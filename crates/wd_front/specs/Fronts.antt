-- What the text of a schema file is read as.
use Rattle.std.specs.Prelude.{◌⊎◌, ℕ, List, map}
use Rattle.std.specs.String.{string_bytes}
use Rattle.wd_schema.specs.declared.error.SchemaError.{SchemaError}
use Rattle.wd_schema.specs.declared.error.SchemaError.TheVariants.{NullForbidden}
use Rattle.wd_schema.specs.Tables.{TableRule}
use Rattle.wd_schema.specs.Texts as profile
use Rattle.wd_dialect_read.specs.Said.{StatementSaid, statement_said}
use Rattle.wd_dialect_schema.specs.declared.error.DialectError.{DialectError}
use Rattle.wd_dialect_schema.specs.Meaning.{tables_of}
use Rattle.wd_dialect_schema.specs.Texts as dialect
use Rattle.wd_front.specs.declared.front.Front.{Front}
use Rattle.wd_front.specs.declared.front.Front.TheVariants.{Own, Respelled, Unread}

-- the profile reads the text
abbrev pub IsRead : List ℕ → Type 0
IsRead text = (tables : List TableRule) × profile.Declares text tables

-- the profile refuses the text
abbrev pub IsUnread : List ℕ → Type 0
IsUnread text = (refusal : SchemaError) × profile.HasCause text refusal

-- The text has these statements, as PostgreSQL's tools write them, and the other text is one of the profile that spells their tables.
abbrev pub IsSpelledBy : List ℕ → List StatementSaid → List ℕ → Type 0
IsSpelledBy text statements other = dialect.Says text statements × dialect.Spells other (tables_of statements)

-- reading the text as PostgreSQL's tools write it gives nothing that the profile reads
abbrev pub IsLost : List ℕ → Type 0
IsLost text = ((refusal : DialectError) × dialect.HasCause text refusal) ⊎ ((statements : List StatementSaid) × (other : List ℕ) × IsSpelledBy text statements other × IsUnread other)

-- A text that the profile reads stays as it is. For another one the tables are spelled, if the profile reads that; but not for a text
-- with NULL for a column that takes none, which no reading repairs.
abbrev pub IsFront : List ℕ → Front → Type 0
IsFront text Own = IsRead text
IsFront text (Respelled s) = IsUnread text × IsSpelledBy text (map statement_said s.statements.items) (string_bytes s.text) × IsRead (string_bytes s.text)
IsFront text (Unread refused) = profile.HasCause text NullForbidden ⊎ (IsUnread text × IsLost text)
