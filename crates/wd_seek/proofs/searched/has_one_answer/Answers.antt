use Rattle.std.proofs.Common.{subst}
use Rattle.wd_schema.specs.Schemas.{schema_of}
use Rattle.wd_plan.specs.Plans.{plan_of}
use Rattle.wd_analyse.specs.Analysis.{IsAnswer}
use Rattle.wd_analyse.specs.declared.analysis.Analysis.TheVariants.{Certified}
use Rattle.wd_seek.proofs.searched.has_one_answer.Goals as goal

pub returns-in-Certified : goal.returns-in-Certified
returns-in-Certified c = λ h.
    let tables = schema_of c.args.schema.now in
    let plan = plan_of c.args.plan.now in
    let answer : IsAnswer tables plan (Certified c.in-Certified.field-0) = subst (IsAnswer tables plan) c.in-Certified.is c.in_ok-analyse.ensures in
    c.valid_has_one.ensures tables plan _ c.requires answer.sound
