use Rattle.std.proofs.Common.{subst}
use Rattle.wd_analyse.specs.Analysis.{IsAnswer}
use Rattle.wd_plan.specs.Plans.{plan_of}
use Rattle.wd_schema.specs.Schemas.{schema_of}
use Rattle.wd_certain.proofs.Uncertain.{open_still}
use Rattle.wd_certain.proofs.certain.certify.Goals as goal

pub returns-clause-open : goal.returns-clause-open
returns-clause-open c = open_still _ _ (plan_of c.in_ok-plan.plan) c.in-Open.field-0 c.in-Open.field-1 c.in_ok-plan.ensures (subst (IsAnswer (schema_of c.args.planned.schema) (plan_of c.in_ok-plan.plan)) c.in-Open.is c.in_ok-certificate.ensures)
