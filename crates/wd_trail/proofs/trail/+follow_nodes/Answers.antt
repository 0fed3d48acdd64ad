use Rattle.wd_plan.proofs.Ranges.{names_classes}
use Rattle.wd_plan.specs.Plans.{plan_of}
use Rattle.wd_schema.specs.Schemas.{schema_of}
use Rattle.wd_trail.proofs.trail.+follow_nodes.Goals as goal

pub step-requires : goal.step-requires
step-requires t c = names_classes (schema_of c.args.schema.now) (plan_of c.args.plan.now) c.requires
