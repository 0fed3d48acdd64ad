use Rattle.std.proofs.Common.{subst, sym}
use Rattle.wd_plan.specs.Plans.{plan_of}
use Rattle.wd_schema.specs.Schemas.{schema_of}
use Rattle.wd_seek.specs.Passed.{ArePassed}
use Rattle.wd_seek.proofs.passed.try_tied.Goals as goal

pub returns-in-Some-clause-sought : goal.returns-in-Some-clause-sought
returns-in-Some-clause-sought c =
    let tables = schema_of c.args.schema.now in
    let plan = plan_of c.args.plan.now in
    c.in-Some.ensures.nothing tables plan (subst (ArePassed tables plan) (sym c.deref.ensures.value) c.requires.passed)
