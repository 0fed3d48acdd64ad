-- Laws of plans and of the texts that they read, over the definitions alone.
use Rattle.std.specs.Prelude.{◌≡◌, ◌⊎◌, ℕ, true, List, Ok}
use Rattle.wd_lex.specs.declared.token.Token.{Token}
use Rattle.wd_lex.specs.Lexed.{IsLexed, kinds_of}
use Rattle.wd_syntax.specs.Levels.{IsWellLevelled}
use Rattle.wd_syntax.specs.Spelling.{spell}
use Rattle.wd_syntax.specs.Tree.{QueryTree}
use Rattle.wd_schema.specs.Tables.{TableRule}
use Rattle.wd_schema.specs.Texts.{Declares}
use Rattle.wd_plan.specs.Expressions.{Expression}
use Rattle.wd_plan.specs.Fits.{fits}
use Rattle.wd_plan.specs.Plans.{LimitRule, PlanTree, Over, Limit, Map}
use Rattle.wd_resolve.specs.Answers.{Answer, answer}

-- The plan and the names are those of a schema's text and a query's text: of the well-levelled tree that spells the query's tokens, over
-- the tables that the schema's text declares.
pub record Reads (schema query : List ℕ) (a : Answer) : Type 0 where
  pub tables : List TableRule
  pub tokens : List Token
  pub tree : QueryTree
  pub declares : Declares schema tables
  pub lexed : IsLexed query tokens
  pub levelled : IsWellLevelled tree
  pub spelled : spell tree ≡ kinds_of tokens
  pub means : answer tables tree ≡ Ok a

-- Each plan that a query has under a schema fits the schema.
abbrev pub PlansFit : Type 0
PlansFit = (tables : List TableRule) (tree : QueryTree) (a : Answer) → answer tables tree ≡ Ok a → fits tables a.plan ≡ true

-- a plan's top node is a Limit, or a Map whose input is a Limit
abbrev pub EndsInLimit : PlanTree → Type 0
EndsInLimit plan = (limit : LimitRule) × (input : PlanTree) × ((plan ≡ Over (Limit limit) input) ⊎ ((outputs : List Expression) × (plan ≡ Over (Map outputs) (Over (Limit limit) input))))

-- The plan of each query whose outermost select has ORDER BY ends so: the Map drops hidden sort keys.
abbrev pub OrderedEndInLimit : Type 0
OrderedEndInLimit = (tables : List TableRule) (tree : QueryTree) (a : Answer) → answer tables tree ≡ Ok a → a.ordered ≡ true → EndsInLimit a.plan
