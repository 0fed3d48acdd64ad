-- Texts of schemas as PostgreSQL's tools write them: their statements, the text of the profile that spells their tables, and
-- why a text is refused.
use Rattle.std.specs.Prelude.{◌≡◌, ℕ, ◌-◌, ◌<◌, false, List, map, length, Ok, Err}
use Rattle.wd_lex.specs.declared.token.Token.{Token}
use Rattle.wd_lex.specs.Causes as tokens
use Rattle.wd_lex.specs.Lexed.{IsLexed, kinds_of, most_bytes}
use Rattle.wd_read_cursor.specs.Cursor.{Fault, Unexpected, Limit}
use Rattle.wd_read_cursor.specs.Tokens.{Kinds}
use Rattle.wd_read_statements.specs.Grammar.{IsSchema, spell_schema}
use Rattle.wd_read_statements.specs.Written.{SchemaTree, TableTree}
use Rattle.wd_schema.specs.declared.error.SchemaError.{SchemaError}
use Rattle.wd_schema.specs.Declares.{AllKeep, table_declared}
use Rattle.wd_schema.specs.Texts.{Declares}
use Rattle.wd_print.specs.Printed.{HasTokens, printed}
use Rattle.wd_dialect_text.specs.Masked.{masked}
use Rattle.wd_dialect_read.specs.Said.{StatementSaid}
use Rattle.wd_dialect_read.specs.Reading.{statements_at}
use Rattle.wd_dialect_schema.specs.Meaning.{tables_of}
use Rattle.wd_dialect_schema.specs.declared.error.DialectError.{DialectError}
use Rattle.wd_dialect_schema.specs.declared.error.DialectError.TheVariants as e

-- The text has these statements: they are read from the tokens of its masked text.
pub record Says (text : List ℕ) (statements : List StatementSaid) : Type 0 where
  pub tokens : List Token
  pub lexed : IsLexed (masked text) tokens
  pub rest : Kinds
  pub read : statements_at (kinds_of tokens) ≡ Ok (statements, rest)

-- the tree of a schema of tables
abbrev pub schema_of : List TableTree → SchemaTree
schema_of tables = record { tables = tables; ended = false }

-- A text of the profile spells the tables. So where nothing refuses the tables, the text declares just these.
pub record Spells (text : List ℕ) (tables : List TableTree) : Type 0 where
  pub whole : IsSchema (schema_of tables)
  pub spelled : HasTokens text (spell_schema (schema_of tables))
  pub declares : ((refusal : SchemaError) → AllKeep refusal tables) → Declares text (map table_declared tables)

-- how many tokens are left from the refused one on
abbrev pub left_in : Fault → ℕ
left_in (Unexpected left) = left
left_in (Limit left) = left

-- the masked text has tokens, and the token with this number cannot come next in a statement
pub record Stops (text : List ℕ) (place : ℕ) : Type 0 where
  pub tokens : List Token
  pub lexed : IsLexed (masked text) tokens
  pub fault : Fault
  pub read : statements_at (kinds_of tokens) ≡ Err fault
  pub there : place ≡ length (kinds_of tokens) - left_in fault

-- the text of the tables would be too long
pub record IsLong (text : List ℕ) : Type 0 where
  pub statements : List StatementSaid
  pub says : Says text statements
  pub long : most_bytes < length (printed (spell_schema (schema_of (tables_of statements))))

-- a text has the cause of a refusal; running out of memory has none
abbrev pub HasCause : List ℕ → DialectError → Type 0
HasCause text (e.Tokens error) = tokens.HasCause error (masked text)
HasCause text (e.Unexpected place) = Stops text place
HasCause text e.TooLong = IsLong text
HasCause text e.OutOfMemory = ⊥
