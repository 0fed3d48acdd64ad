use Rattle.std.proofs.Common.{subst}
use Rattle.wd_eval.proofs.Wrong.{has_no_wrong_ordering}
use Rattle.wd_eval.specs.Judged.{IsRefused}
use Rattle.wd_eval.specs.declared.error.EvalError.TheVariants.{NotValid}
use Rattle.wd_plan.specs.Plans.{plan_of}
use Rattle.wd_value.specs.Rows.{instance_of}
use Rattle.wd_witness_text.specs.Witnesses.{positions_of}
use Rattle.wd_refute.proofs.judge.answer_under.Goals as goal

pub returns-in-Err-NotValid-clause-refused : goal.returns-in-Err-NotValid-clause-refused
returns-in-Err-NotValid-clause-refused c =
    let plan = plan_of c.args.plan.now in
    let instance = instance_of c.args.instance.now.items in
    let choice = positions_of c.args.choice.now.orderings.items in
    let refused : IsRefused plan instance choice (NotValid c.in-Err-NotValid.field-0-0) = subst (IsRefused plan instance choice) c.in-Err-NotValid.field-0-is c.in-Err-NotValid.ensures.refused in
    has_no_wrong_ordering plan instance choice _ refused.0
