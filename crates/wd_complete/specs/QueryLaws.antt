-- Queries of the plain class have plain plans.
use Rattle.std.specs.Prelude.{◌≡◌, List, Ok}
use Rattle.wd_syntax.specs.Tree.{QueryTree}
use Rattle.wd_schema.specs.Tables.{TableRule}
use Rattle.wd_resolve.specs.Answers.{Answer, answer}
use Rattle.wd_complete.specs.Plain.{IsPlain, PlainPlan, plan_by}
use Rattle.wd_complete.specs.Queries.{IsPlainQuery}

-- the plan of a query is a plain plan
pub record HasPlainPlan (a : Answer) : Type 0 where
  pub plan : PlainPlan
  pub is : a.plan ≡ plan_by plan
  pub plain : IsPlain plan

-- a query of the plain class that has a plan has a plain plan
abbrev pub QueriesArePlain : Type 0
QueriesArePlain = (tables : List TableRule) (q : QueryTree) (a : Answer) → IsPlainQuery tables q → answer tables q ≡ Ok a → HasPlainPlan a
