use Rattle.std.proofs.Common.{ℕ, ◌<◌}
use Rattle.wd_schema.specs.Schemas.{schema_of}
use Rattle.wd_plan.specs.Plans.{plan_of}
use Rattle.wd_run.specs.Runs.{HasDataAt, data_of}
use Rattle.wd_run.proofs.data.check_given.Given as goal

abbrev pub invariant-loop-number : goal.invariant-loop-number
invariant-loop-number l = (k : ℕ) → k < l.number → HasDataAt (schema_of l.schema) (data_of l.given) (plan_of l.plan) k
