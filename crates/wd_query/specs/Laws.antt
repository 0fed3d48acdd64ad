-- Laws of texts, over the definitions alone.
use Rattle.std.specs.Prelude.{◌≡◌, ℕ, List, IsSome}
use Rattle.wd_syntax.specs.Limits.{KeepsLimits}
use Rattle.wd_resolve.specs.Answers.{Answer}
use Rattle.wd_resolve.specs.Laws.{Reads}
use Rattle.wd_query.specs.Causes.{HasTextCause, text_number}
use Rattle.wd_query.specs.declared.error.TextError.{TextError}

-- A schema's text and a query's text have at most one plan.
abbrev pub HasOnePlan : Type 0
HasOnePlan = (schema query : List ℕ) (first second : Answer) → Reads schema query first → Reads schema query second → first ≡ second

-- the texts have a plan, and the query's tree keeps the limits of trees
pub record HaveMeaning (schema query : List ℕ) : Type 0 where
  pub read : Answer
  pub reads : Reads schema query read
  pub limits : KeepsLimits reads.tree

-- Texts that have a meaning contain no cause of a refusal, from their bytes to the plan: only the refusal that memory runs out has no
-- cause in them.
abbrev pub HasMeaningOrCause : Type 0
HasMeaningOrCause = (schema query : List ℕ) (refusal : TextError) → HaveMeaning schema query → IsSome (text_number refusal) → HasTextCause schema query refusal → ⊥
