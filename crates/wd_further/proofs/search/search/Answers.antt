use Rattle.std.proofs.lemmas.Result.{IfOk-weaker}
use Rattle.wd_plan.specs.Plans.{plan_of}
use Rattle.wd_schema.specs.Schemas.{schema_of}
use Rattle.wd_further.proofs.Trying.{shown_of}
use Rattle.wd_further.proofs.search.search.Goals as goal

pub returns-clause-shown : goal.returns-clause-shown
returns-clause-shown c = IfOk-weaker c.search_sizes.result _ _ (shown_of (schema_of c.args.schema.now) (plan_of c.args.plan.now)) c.search_sizes.ensures
