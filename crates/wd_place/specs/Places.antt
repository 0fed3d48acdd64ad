-- The place of the cause of a refusal.
use Rattle.std.specs.Prelude.{◌≡◌, ◌≢◌, ◌⊎◌, ℕ, nat_le, Bool, true, false, ◌&&◌, List, Some}
use Rattle.std.specs.List.{list_any}
use Rattle.wd_lex.specs.Lexed.{IsLexed}
use Rattle.wd_lex.specs.declared.token.Span.{Span}
use Rattle.wd_lex.specs.declared.token.Token.{Token}
use Rattle.wd_schema.specs.Refusals.{number_of}
use Rattle.wd_schema.specs.Tables.{TableRule}
use Rattle.wd_schema.specs.Texts.{Declares, HasCause}
use Rattle.wd_schema.specs.declared.error.SchemaError.{SchemaError}
use Rattle.wd_resolve.specs.Answers.{Answer}
use Rattle.wd_query.specs.Causes.{HasQueryCause, query_number}
use Rattle.wd_query.specs.Readings.{IsPlanned}
use Rattle.wd_query.specs.declared.error.QueryError.{QueryError}
use Rattle.wd_parts.specs.Whole.{IsWhole}
use Rattle.wd_keys.specs.Changes.{ArePut}
use Rattle.wd_keys.specs.declared.change.Change.{Change}

-- ---- whether a text is refused by a number

-- a query's text over these tables is refused by the number
pub record IsQueryRefused (tables : List TableRule) (number : ℕ) (query : List ℕ) : Type 0 where
  pub error : QueryError
  pub cause : HasQueryCause tables query error
  pub is : query_number error ≡ Some number

-- a query's text over these tables is refused by another number
pub record IsQueryRefusedElse (tables : List TableRule) (number : ℕ) (query : List ℕ) : Type 0 where
  pub error : QueryError
  pub cause : HasQueryCause tables query error
  pub is : query_number error ≢ Some number

-- a query's text is not refused by the number: it has a plan, or is refused by another number
abbrev pub IsQueryPassed : List TableRule → ℕ → List ℕ → Type 0
IsQueryPassed tables number query = ((answer : Answer) × IsPlanned tables query answer) ⊎ IsQueryRefusedElse tables number query

-- a schema's text is refused by the number
pub record IsSchemaRefused (number : ℕ) (schema : List ℕ) : Type 0 where
  pub error : SchemaError
  pub cause : HasCause schema error
  pub is : number_of error ≡ Some number

-- a schema's text is refused by another number
pub record IsSchemaRefusedElse (number : ℕ) (schema : List ℕ) : Type 0 where
  pub error : SchemaError
  pub cause : HasCause schema error
  pub is : number_of error ≢ Some number

-- a schema's text is not refused by the number: it declares tables, or is refused by another number
abbrev pub IsSchemaPassed : ℕ → List ℕ → Type 0
IsSchemaPassed number schema = ((tables : List TableRule) × Declares schema tables) ⊎ IsSchemaRefusedElse number schema

-- ---- places

-- a change removes all of the bytes
abbrev pub takes : Span → Change → Bool
takes span change = nat_le change.at span.start && nat_le span.end change.end

-- a text with changes made has the property
pub record WithChanges (P : List ℕ → Type 0) (text : List ℕ) (changes : List Change) : Type 0 where
  pub after : List ℕ
  pub put : ArePut text changes after
  pub holds : P after

-- The place of a cause: whole tokens of the text. With some changes that keep at least a part of them the text is refused, and with some
-- that remove them it is not.
pub record IsCauseAt (Refused Passed : List ℕ → Type 0) (text : List ℕ) (span : Span) : Type 0 where
  pub tokens : List Token
  pub lexed : IsLexed text tokens
  pub whole : IsWhole tokens span
  pub kept : List Change
  pub stays : list_any (takes span) kept ≡ false
  pub refused : WithChanges Refused text kept
  pub gone : List Change
  pub goes : list_any (takes span) gone ≡ true
  pub passed : WithChanges Passed text gone

-- the cause for which a query's text is refused over a schema's by this number
pub record IsQueryCause (schema query : List ℕ) (number : ℕ) (span : Span) : Type 0 where
  pub tables : List TableRule
  pub declared : Declares schema tables
  pub cause : IsCauseAt (IsQueryRefused tables number) (IsQueryPassed tables number) query span

-- the cause for which a schema's text is refused by this number
abbrev pub IsSchemaCause : List ℕ → ℕ → Span → Type 0
IsSchemaCause schema number span = IsCauseAt (IsSchemaRefused number) (IsSchemaPassed number) schema span
