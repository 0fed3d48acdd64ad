use Rattle.std.proofs.Common.{◌≡◌, ◌∙◌, true, ap, subst, sym}
use Rattle.std.proofs.lemmas.Result.{IfOk-weaker}
use Rattle.wd_schema.specs.Schemas.{schema_of}
use Rattle.wd_plan.specs.Fits.{fits}
use Rattle.wd_plan.specs.Plans.{plan_of}
use Rattle.wd_simpler.specs.Simpler.{simpler}
use Rattle.wd_lighter.specs.Lighter.{IsLighter}
use Rattle.wd_lighter.proofs.Carried.{itself, simpler_is_lighter}
use Rattle.wd_lighter.proofs.plan.lighter.Goals as goal

pub returns-then-fits : goal.returns-then-fits
returns-then-fits c =
    let tables = schema_of c.args.schema.now in
    let plan = plan_of c.args.plan.now in
    let made : plan_of c.in_ok-simple.simple ≡ simpler tables plan = c.in_ok-simple.ensures ∙ ap (simpler tables) c.in_ok-copied_plan.ensures in
    let fitting : fits tables (simpler tables plan) ≡ true = ap (fits tables) (sym made) ∙ sym c.fits.ensures ∙ c.if-fits.true in
    subst (IsLighter tables plan) (sym made) (simpler_is_lighter tables plan c.requires fitting)

pub returns-else-fits : goal.returns-else-fits
returns-else-fits c =
    let tables = schema_of c.args.schema.now in
    let plan = plan_of c.args.plan.now in
    IfOk-weaker c.copied_plan-else-fits.result _ _ (λ copied is. subst (IsLighter tables plan) (sym is) (itself tables plan c.requires)) c.copied_plan-else-fits.ensures
