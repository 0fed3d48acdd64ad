-- Schema texts: the tables that a text declares, and why a text is refused.
use Rattle.std.specs.Prelude.{◌≡◌, ℕ, List, map, Result, Ok, Err}
use Rattle.wd_lex.specs.Lexed.{IsLexed, kinds_of}
use Rattle.wd_lex.specs.Causes as tokens
use Rattle.wd_lex.specs.declared.token.Token.{Token}
use Rattle.wd_schema.specs.declared.error.SchemaError.{SchemaError}
use Rattle.wd_schema.specs.declared.error.SchemaError.TheVariants.{Tokens, TableTwice, ColumnTwice, UnknownColumn, SecondPrimaryKey, KeyColumnTwice, TooMany, UnknownType, NullForbidden, Unexpected, OutOfMemory}
use Rattle.wd_schema.specs.declared.schema.Schema.{Schema}
use Rattle.wd_schema.specs.Declares.{AllKeep, table_declared}
use Rattle.wd_read_statements.specs.Grammar.{Begins, IsSchema, IsUnexpected, spell_schema}
use Rattle.wd_schema.specs.Schemas.{schema_of}
use Rattle.wd_schema.specs.Tables.{TableRule}
use Rattle.wd_read_statements.specs.Written.{SchemaTree, TableTree}

-- The text declares the tables: its tokens spell a tree that has no cause of a refusal, and the tables are those that the tree declares,
-- in its order.
pub record Declares (text : List ℕ) (tables : List TableRule) : Type 0 where
  pub tokens : List Token
  pub tree : SchemaTree
  pub lexed : IsLexed text tokens
  pub spelled : kinds_of tokens ≡ spell_schema tree
  pub whole : IsSchema tree
  pub kept : (refusal : SchemaError) → AllKeep refusal tree.tables
  pub are : tables ≡ map table_declared tree.tables

-- the first statements of the text are tables that violate what the refusal is about
pub record Breaks (text : List ℕ) (refusal : SchemaError) : Type 0 where
  pub tokens : List Token
  pub tables : List TableTree
  pub lexed : IsLexed text tokens
  pub begins : Begins (kinds_of tokens) tables
  pub broken : ¬ (AllKeep refusal tables)

-- the text has tokens, and no schema continues with the token at that place
pub record Stops (text : List ℕ) (place : ℕ) : Type 0 where
  pub tokens : List Token
  pub lexed : IsLexed text tokens
  pub stops : IsUnexpected (kinds_of tokens) place

-- the text has the refusal's cause; where memory runs out it has none
abbrev pub HasCause : List ℕ → SchemaError → Type 0
HasCause text (Tokens error) = tokens.HasCause error text
HasCause text (Unexpected place) = Stops text place
HasCause text OutOfMemory = ⊥
HasCause text TableTwice = Breaks text TableTwice
HasCause text ColumnTwice = Breaks text ColumnTwice
HasCause text UnknownColumn = Breaks text UnknownColumn
HasCause text SecondPrimaryKey = Breaks text SecondPrimaryKey
HasCause text KeyColumnTwice = Breaks text KeyColumnTwice
HasCause text TooMany = Breaks text TooMany
HasCause text UnknownType = Breaks text UnknownType
HasCause text NullForbidden = Breaks text NullForbidden

-- the answer is a schema of these tables, or memory ran out
abbrev pub GivesTables : List TableRule → Result Schema SchemaError → Type 0
GivesTables tables (Ok schema) = schema_of schema ≡ tables
GivesTables tables (Err refusal) = refusal ≡ OutOfMemory
