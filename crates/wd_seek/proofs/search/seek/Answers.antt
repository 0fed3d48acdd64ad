use Rattle.std.proofs.Common.{IfNone, ap, subst, sym, ◌∙◌}
use Rattle.std.proofs.lemmas.Result.{IfOk-weaker}
use Rattle.wd_partition.specs.declared.turn.Turn.TheVariants.{Reversed}
use Rattle.wd_plan.specs.Plans.{plan_of}
use Rattle.wd_schema.specs.Schemas.{schema_of}
use Rattle.wd_seek.specs.Search.{FindsNothing, FirstShowNothing}
use Rattle.wd_seek.proofs.Searching.{nothing_to_try}
use Rattle.wd_seek.specs.Sought.{IsSought, reasons_of, to_try}
use Rattle.wd_seek.proofs.Shown.{exhausted}
use Rattle.wd_seek.proofs.search.seek.Goals as goal

pub returns-in-Certified-clause-sought : goal.returns-in-Certified-clause-sought
returns-in-Certified-clause-sought c =
    let tables = schema_of c.args.schema.now in
    let plan = plan_of c.args.plan.now in
    subst (λ a. FindsNothing Reversed plan (to_try tables plan (reasons_of a)) 0 0) (sym c.in-Certified.is) (nothing_to_try Reversed plan 0)

pub returns-in_ok-outline-in-Open-clause-exhaustive : goal.returns-in_ok-outline-in-Open-clause-exhaustive
returns-in_ok-outline-in-Open-clause-exhaustive c =
    let tables = schema_of c.args.schema.now in
    let plan = plan_of c.args.plan.now in
    let all = to_try tables plan (reasons_of c.args.analysis.now) in
    let same = ap (to_try tables plan) (c.deref.ensures.value ∙ sym (ap reasons_of c.in-Open.is)) in
    IfOk-weaker c.try_lighter_plan.result (λ r. IsSought Reversed tables plan (to_try tables plan c.deref.result.now) 0 r.0 r.1) (λ r. IfNone r.0 (FirstShowNothing Reversed plan all))
    (λ r h. exhausted Reversed tables plan all r.0 r.1 (subst (λ is. IsSought Reversed tables plan is 0 r.0 r.1) same h)) c.try_lighter_plan.ensures.sought
