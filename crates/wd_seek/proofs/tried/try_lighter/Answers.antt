use Rattle.std.proofs.lemmas.Result.{IfOk-weaker}
use Rattle.wd_plan.specs.Plans.{plan_of}
use Rattle.wd_schema.specs.Schemas.{schema_of}
use Rattle.wd_value.specs.Rows.{instance_of}
use Rattle.wd_seek.proofs.Trying.{met, not_met}
use Rattle.wd_seek.proofs.tried.try_lighter.Goals as goal

pub returns-in-Ok-clause-sought : goal.returns-in-Ok-clause-sought
returns-in-Ok-clause-sought c =
    let tables = schema_of c.args.schema.now in
    let plan = plan_of c.args.plan.now in
    IfOk-weaker c.try_instance.result _ _ (λ r h. λ small.
    met c.args.turn tables plan c.args.outline.now (instance_of c.args.instance.items) c.args.spent r.1 r.0 c.requires.outline small c.in-Ok.ensures.met h) c.try_instance.ensures.tried

pub returns-in-Err-clause-sought : goal.returns-in-Err-clause-sought
returns-in-Err-clause-sought c = λ small.
    not_met c.args.turn (schema_of c.args.schema.now) (plan_of c.args.plan.now) (instance_of c.args.instance.items) c.args.spent c.in-Err.ensures.violated
