-- The plan that a schema's text and a query's text mean.
use Rattle.std.specs.Prelude.{◌≡◌, ℕ, List, Ok}
use Rattle.wd_lex.specs.Lexed.{IsLexed, kinds_of}
use Rattle.wd_lex.specs.declared.token.Token.{Token}
use Rattle.wd_syntax.specs.Laws.{IsTreeOf}
use Rattle.wd_syntax.specs.Limits.{KeepsLimits}
use Rattle.wd_syntax.specs.Tree.{QueryTree}
use Rattle.wd_schema.specs.Schemas.{schema_of}
use Rattle.wd_schema.specs.Tables.{TableRule}
use Rattle.wd_plan.specs.Plans.{PlanTree}
use Rattle.wd_resolve.specs.Answers.{Answer, answer, resolved_of}
use Rattle.wd_resolve.specs.Laws.{Reads}
use Rattle.wd_query.specs.declared.read.PlannedQuery.{PlannedQuery}

-- the plan and the names are those of the query's tree over the tables; the tree keeps the limits of trees
pub record IsPlanned (tables : List TableRule) (query : List ℕ) (a : Answer) : Type 0 where
  pub tokens : List Token
  pub tree : QueryTree
  pub lexed : IsLexed query tokens
  pub spelled : IsTreeOf (kinds_of tokens) tree
  pub means : answer tables tree ≡ Ok a
  pub limits : KeepsLimits tree

-- the plan and the names are those of the two texts, over the schema that the first one declares; the query's tree keeps the limits of
-- trees
pub record IsRead (schema query : List ℕ) (planned : PlannedQuery) : Type 0 where
  pub reads : Reads schema query (resolved_of planned.resolved)
  pub tables : reads.tables ≡ schema_of planned.schema
  pub limits : KeepsLimits reads.tree

-- the texts have a plan over the schema's tables that has the property
abbrev pub ForReading : List ℕ → List ℕ → (List TableRule → PlanTree → Type 0) → Type 0
ForReading schema query P = (read : Answer) × (reads : Reads schema query read) × P reads.tables read.plan

-- the texts have an answer over the schema's tables that has the property
abbrev pub ForAnswer : List ℕ → List ℕ → (List TableRule → Answer → Type 0) → Type 0
ForAnswer schema query P = (read : Answer) × (reads : Reads schema query read) × P reads.tables read
