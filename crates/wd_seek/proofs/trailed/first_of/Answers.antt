use Rattle.std.proofs.Common.{◌∙◌, None, Ok, ap, subst, sym}
use Rattle.wd_plan.specs.Plans.{plan_of}
use Rattle.wd_value.specs.Rows.{instance_of}
use Rattle.wd_seek.specs.Probed.{IsEvaluated, IsFirst}
use Rattle.wd_seek.proofs.Agreeing.{first_gives}
use Rattle.wd_seek.proofs.trailed.first_of.Goals as goal

pub returns-in-Some : goal.returns-in-Some
returns-in-Some c =
    let plan = plan_of c.args.plan.now in
    let instance = instance_of c.args.instance.now.items in
    let rows = c.in_ok-rows-in-Some.ensures ∙ c.source.ensures ∙ c.rows.ensures in
    record {
      outcome = subst (IsFirst plan instance) (sym (c.in_ok-outcome-in-Some.ensures ∙ ap Ok rows)) (first_gives plan instance c.in-Some.trail c.in-Some.ensures);
      trail = c.in-Some.ensures;
    }

pub returns : goal.returns
returns c = subst (IsEvaluated (plan_of c.args.plan.now) (instance_of c.args.instance.now.items) None) c.in-None-2.is c.in_ok-outcome-in-None.ensures
