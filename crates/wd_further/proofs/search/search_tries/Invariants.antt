use Rattle.std.proofs.Common.{◌-◌, ◌≤◌, ◌∷◌, [], take}
use Rattle.wd_plan.specs.Plans.{plan_of}
use Rattle.wd_schema.specs.Schemas.{schema_of}
use Rattle.wd_value.specs.Bags.{positions}
use Rattle.wd_seek.specs.Evaluations.{most_evaluations}
use Rattle.wd_seek.specs.Search.{FindsNothing}
use Rattle.wd_seek.proofs.Trying.{tried_by}
use Rattle.wd_varied.specs.Varied.{varied}
use Rattle.wd_further.proofs.search.search_tries.Given as goal

abbrev pub invariant-loop-number : goal.invariant-loop-number
invariant-loop-number l = (l.spent ≤ most_evaluations)
    × FindsNothing l.turn (plan_of l.plan) (tried_by (schema_of l.schema) (λ number. varied (schema_of l.schema) (plan_of l.plan) l.rows number ∷ []) (take l.number (positions l.tries))) (most_evaluations - l.most) l.spent
