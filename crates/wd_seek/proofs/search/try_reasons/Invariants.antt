use Rattle.std.proofs.Common.{◌≤◌, take}
use Rattle.wd_partition.specs.declared.turn.Turn.TheVariants.{Reversed}
use Rattle.wd_plan.specs.Plans.{plan_of}
use Rattle.wd_schema.specs.Schemas.{schema_of}
use Rattle.wd_analyse.specs.declared.analysis.Reason.{Reason}
use Rattle.wd_candidates.specs.Candidates.{candidates}
use Rattle.wd_seek.specs.Evaluations.{most_evaluations}
use Rattle.wd_seek.specs.Passed.{ArePassed}
use Rattle.wd_seek.specs.Search.{FindsNothing}
use Rattle.wd_seek.proofs.Trying.{tried_by}
use Rattle.wd_seek.proofs.search.try_reasons.Given as goal

abbrev pub invariant-loop-reason : goal.invariant-loop-reason
invariant-loop-reason l = (l.spent ≤ most_evaluations)
    × FindsNothing Reversed (plan_of l.plan) (tried_by (schema_of l.schema) (λ (reason : Reason). candidates (schema_of l.schema) (plan_of l.plan) reason.node reason.call) (take l.reason-index l.reasons)) 0 l.spent
    × ArePassed (schema_of l.schema) (plan_of l.plan) l.passed.items
