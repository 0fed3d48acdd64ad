-- Texts of queries in which the queries that the profile refuses are respelled, and those with numbers that count units.
use Rattle.std.specs.Prelude.{ℕ, ◌<◌, ◌⊎◌, IsSome, List, length, slice_range, All}
use Rattle.wd_dialect_read.specs.declared.said.Statement.{Statement}
use Rattle.wd_fix.specs.Fixes.{IsFixed}
use Rattle.wd_fix.specs.declared.fix.Fix.{Fix}
use Rattle.wd_query.specs.Causes.{HasTextCause, text_number}
use Rattle.wd_query.specs.Laws.{HaveMeaning}
use Rattle.wd_query.specs.declared.error.TextError.{TextError}
use Rattle.wd_lex.specs.declared.token.Span.{Span}
use Rattle.wd_lex.specs.Lexed.{most_bytes}
use Rattle.wd_respell.specs.Respelled as respelled
use Rattle.wd_respell.specs.Respelled.{CountsUnits, IsRespelledAs}
use Rattle.wd_schema.specs.Tables.{TableRule}
use Rattle.wd_schema.specs.Texts.{Declares}
use Rattle.wd_source.specs.Statements.{AreStatements}

-- the text of the statement in these bytes
abbrev pub statement_of : List ℕ → Span → List ℕ
statement_of text span = slice_range text span.start span.end

-- the profile refuses the query over this schema, for a cause that has a number
pub record IsRefused (schema query : List ℕ) : Type 0 where
  pub refusal : TextError
  pub numbered : IsSome (text_number refusal)
  pub refused : HasTextCause schema query refusal

-- a query is respelled where the profile refuses it, or its numbers count units
abbrev pub IsDue : List Statement → List ℕ → List ℕ → Type 0
IsDue statements schema query = IsRefused schema query ⊎ CountsUnits statements query

-- a text that the profile refuses as too long, whatever its contents
abbrev pub IsTooLong : List ℕ → Type 0
IsTooLong text = most_bytes < length text

-- the query over these tables is respelled so, or replaced by a text that is not read
abbrev pub IsPut : List TableRule → List Statement → List ℕ → List ℕ → Type 0
IsPut tables statements query other = IsRespelledAs tables statements query other ⊎ IsTooLong other

-- what replaces a statement that is respelled over this schema
pub record IsRespelledAt (statements : List Statement) (schema text : List ℕ) (fix : Fix) : Type 0 where
  pub due : IsDue statements schema (statement_of text fix.span)
  pub tables : List TableRule
  pub declared : Declares schema tables
  pub put : IsPut tables statements (statement_of text fix.span) fix.text.items

-- the profile reads the query over this schema, and none of its numbers counts units
pub record IsReadAsItStands (statements : List Statement) (schema query : List ℕ) : Type 0 where
  pub read : HaveMeaning schema query
  pub units : ¬ (CountsUnits statements query)

-- the profile refuses the query over this schema, and it cannot be respelled over these tables
pub record IsRefusedForGood (tables : List TableRule) (statements : List Statement) (schema query : List ℕ) : Type 0 where
  pub refused : IsRefused schema query
  pub left : respelled.IsLeft tables statements query

-- a query is left as it is only where the profile reads it as it is, or there is nothing else to be read
abbrev pub IsLeft : List TableRule → List Statement → List ℕ → List ℕ → Type 0
IsLeft tables statements schema query = IsReadAsItStands statements schema query ⊎ IsRefusedForGood tables statements schema query

-- each statement of a text is left as it is, over the tables that the schema declares
pub record AreLeft (statements : List Statement) (schema text : List ℕ) : Type 0 where
  pub tables : List TableRule
  pub declared : Declares schema tables
  pub spans : List Span
  pub are : AreStatements text spans
  pub each : All (λ span. IsLeft tables statements schema (statement_of text span)) spans

-- this is the text with at least one of its statements respelled, and everything else unchanged, byte for byte
pub record IsRespelledText (statements : List Statement) (schema text after : List ℕ) : Type 0 where
  pub fixes : List Fix
  pub some : 0 < length fixes
  pub each : All (IsRespelledAt statements schema text) fixes
  pub fixed : IsFixed text fixes after
