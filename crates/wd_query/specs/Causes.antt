-- The numbers and the places of refusals of texts, and the properties of the texts for which they are reported.
use Rattle.std.specs.Prelude.{◌≢◌, ℕ, List, Option, None}
use Rattle.wd_lex.specs.Causes as tokens
use Rattle.wd_lex.specs.Lexed.{IsLexed, kinds_of}
use Rattle.wd_lex.specs.declared.error.LexError.TheVariants as lex_error
use Rattle.wd_lex.specs.declared.token.Token.{Token}
use Rattle.wd_syntax.specs.Laws.{IsTreeOf}
use Rattle.wd_syntax.specs.Tree.{QueryTree}
use Rattle.wd_parse.specs.Causes as trees
use Rattle.wd_parse.specs.declared.error.ParseError.{ParseError}
use Rattle.wd_schema.specs.Refusals as tables
use Rattle.wd_schema.specs.Tables.{TableRule}
use Rattle.wd_schema.specs.Texts as schemas
use Rattle.wd_schema.specs.Texts.{Declares}
use Rattle.wd_schema.specs.declared.error.SchemaError.TheVariants as schema_error
use Rattle.wd_resolve_operand.specs.Causes as meanings
use Rattle.wd_resolve_operand.specs.declared.cause.ResolveError.{ResolveError}
use Rattle.wd_resolve.specs.Answers.{answer}
use Rattle.wd_query.specs.declared.error.QueryError.{QueryError}
use Rattle.wd_query.specs.declared.error.QueryError.TheVariants as query_error
use Rattle.wd_query.specs.declared.error.TextError.{TextError}
use Rattle.wd_query.specs.declared.error.TextError.TheVariants as text_error

-- ---- numbers and places

abbrev pub query_number : QueryError → Option ℕ
query_number (query_error.Tokens error) = tokens.number_of error
query_number (query_error.Tree error) = trees.number_of error
query_number (query_error.Meaning error) = meanings.error_number error

abbrev pub query_place : QueryError → Option ℕ
query_place (query_error.Tokens error) = tokens.place_of error
query_place (query_error.Tree error) = trees.place_of error
query_place (query_error.Meaning error) = None

abbrev pub text_number : TextError → Option ℕ
text_number (text_error.Schema error) = tables.number_of error
text_number (text_error.Query error) = query_number error

abbrev pub text_place : TextError → Option ℕ
text_place (text_error.Schema error) = tables.place_of error
text_place (text_error.Query error) = query_place error

-- ---- the causes in the texts

-- no tree spells the query's tokens, or the tree passes a limit
pub record HasNoTree (query : List ℕ) (error : ParseError) : Type 0 where
  pub tokens : List Token
  pub lexed : IsLexed query tokens
  pub cause : trees.HasCause error (kinds_of tokens)

-- the query's tree has no plan over the tables, for this cause
pub record HasNoPlan (tables : List TableRule) (query : List ℕ) (error : ResolveError) : Type 0 where
  pub tokens : List Token
  pub tree : QueryTree
  pub lexed : IsLexed query tokens
  pub spelled : IsTreeOf (kinds_of tokens) tree
  pub cause : meanings.Fails error (answer tables tree)

-- why a query's text is refused over a schema's tables
abbrev pub HasQueryCause : List TableRule → List ℕ → QueryError → Type 0
HasQueryCause tables query (query_error.Tokens error) = error ≢ lex_error.OutOfMemory → tokens.HasCause error query
HasQueryCause tables query (query_error.Tree error) = HasNoTree query error
HasQueryCause tables query (query_error.Meaning error) = HasNoPlan tables query error

-- why a schema's text and a query's text have no plan; where memory runs out the texts need not have a cause
abbrev pub HasTextCause : List ℕ → List ℕ → TextError → Type 0
HasTextCause schema query (text_error.Schema error) = error ≢ schema_error.OutOfMemory → schemas.HasCause schema error
HasTextCause schema query (text_error.Query error) = (tables : List TableRule) × Declares schema tables × HasQueryCause tables query error
