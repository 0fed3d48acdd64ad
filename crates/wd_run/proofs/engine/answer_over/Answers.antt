use Rattle.std.proofs.lemmas.Result.{err_from_is_err_and}
use Rattle.wd_plan.specs.Plans.{plan_of}
use Rattle.wd_schema.specs.Schemas.{schema_of}
use Rattle.wd_run.specs.Runs.{data_of}
use Rattle.wd_run.proofs.RunLemmas.{RefusesOutcome-from_data, RefusesOutcome-from_plan}
use Rattle.wd_run.proofs.engine.answer_over.Goals as goal

pub returns-in_err-instance-clause-refused : goal.returns-in_err-instance-clause-refused
returns-in_err-instance-clause-refused c =
    let p = err_from_is_err_and c.from_residual.result c.from_residual.ensures.1 in
    rw (p.1, p.2) (RefusesOutcome-from_data (schema_of c.args.schema.now) (data_of c.args.tables.now) (plan_of c.args.plan.now) c.in_err-instance.field-0.0 c.in_err-instance.ensures.refused)

pub returns-in_err-check_given-clause-refused : goal.returns-in_err-check_given-clause-refused
returns-in_err-check_given-clause-refused c =
    let p = err_from_is_err_and c.from_residual-in_err-check_given.result c.from_residual-in_err-check_given.ensures.1 in
    rw (p.1, p.2) (RefusesOutcome-from_plan (schema_of c.args.schema.now) (data_of c.args.tables.now) (plan_of c.args.plan.now) c.in_err-check_given.field-0.0 c.in_err-check_given.ensures.refused)
