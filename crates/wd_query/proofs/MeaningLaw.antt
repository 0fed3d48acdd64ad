-- Texts that have a meaning are refused for nothing that stands in them.
use Rattle.std.proofs.Common.{◌≡◌, ◌∙◌, ℕ, List, Ok, Err, sym, ap, subst}
use Rattle.std.specs.Prelude.{IsSome}
use Rattle.std.proofs.lemmas.Bool.{false≢true}
use Rattle.wd_lex.specs.Lexed.{IsLexed, kinds_of}
use Rattle.wd_lex.specs.Causes as lexer
use Rattle.wd_lex.specs.declared.token.Token.{Token}
use Rattle.wd_lex.proofs.TextLaws.{no_cause, one_list_of_tokens}
use Rattle.wd_syntax.specs.Laws.{IsTreeOf}
use Rattle.wd_syntax.specs.Tree.{QueryTree}
use Rattle.wd_parse.proofs.Unique.{one_tree}
use Rattle.wd_parse.specs.declared.error.ParseError.TheVariants as parse_error
use Rattle.wd_resolve_operand.specs.declared.cause.ResolveError.TheVariants as resolve_error
use Rattle.wd_schema.specs.Refusals as refusals
use Rattle.wd_schema.specs.Tables.{TableRule}
use Rattle.wd_schema.specs.Texts.{Declares}
use Rattle.wd_schema.proofs.TextFacts.{meaning_or_cause as schema_meaning_or_cause, one_meaning}
use Rattle.wd_resolve.specs.Answers.{answer}
use Rattle.wd_query.specs.Causes.{HasQueryCause, query_number}
use Rattle.wd_query.specs.Laws.{HasMeaningOrCause, HaveMeaning}
use Rattle.wd_query.specs.declared.error.TextError.TheVariants as text_error
use Rattle.wd_query.specs.declared.error.QueryError.{QueryError}
use Rattle.wd_query.specs.declared.error.QueryError.TheVariants as query_error

module _ (schema query : List ℕ) (m : HaveMeaning schema query) where
  -- the query's tree, by other tokens of the same text
  tree_of : (tokens : List Token) → IsLexed query tokens → IsTreeOf (kinds_of tokens) m.reads.tree
  tree_of tokens lexed = (m.reads.levelled, m.reads.spelled ∙ ap kinds_of (one_list_of_tokens query m.reads.tokens tokens m.reads.lexed lexed))

  planned : (tables : List TableRule) → Declares schema tables → (tokens : List Token) (tree : QueryTree) → IsLexed query tokens → IsTreeOf (kinds_of tokens) tree → answer tables tree ≡ Ok m.read
  planned tables declares tokens tree lexed is =
      let own = tree_of tokens lexed in
      let same : tree ≡ m.reads.tree = one_tree (kinds_of tokens) tree m.reads.tree is.0 own.0 is.1 own.1 in
      ap (λ ts. answer ts tree) (one_meaning schema tables m.reads.tables declares m.reads.declares) ∙ ap (answer m.reads.tables) same ∙ m.reads.means

  of_query : (tables : List TableRule) → Declares schema tables → (error : QueryError) → IsSome (query_number error) → HasQueryCause tables query error → ⊥
  of_query tables declares (query_error.Tokens error) some cause = no_cause query m.reads.tokens error m.reads.lexed (cause (λ e. false≢true (subst (λ x. IsSome (lexer.number_of x)) e some)))
  of_query tables declares (query_error.Tree (parse_error.Unexpected place)) some h = h.cause m.reads.tree (tree_of h.tokens h.lexed)
  of_query tables declares (query_error.Tree (parse_error.PastLimit place)) some h = h.cause.1 m.reads.tree (tree_of h.tokens h.lexed) m.limits
  of_query tables declares (query_error.Tree parse_error.OutOfMemory) some h = false≢true some
  of_query tables declares (query_error.Meaning (resolve_error.Refused cause)) some h =
      let both : Err cause ≡ Ok m.read = sym h.cause ∙ planned tables declares h.tokens h.tree h.lexed h.spelled in
      cc
  of_query tables declares (query_error.Meaning resolve_error.OutOfMemory) some h = false≢true some

pub meaning_or_cause : HasMeaningOrCause
meaning_or_cause schema query (text_error.Schema error) m some cause =
    schema_meaning_or_cause schema m.reads.tables error m.reads.declares (cause (λ e. false≢true (subst (λ x. IsSome (refusals.number_of x)) e some)))
meaning_or_cause schema query (text_error.Query error) m some cause = of_query schema query m cause.0 cause.1 error some cause.2
