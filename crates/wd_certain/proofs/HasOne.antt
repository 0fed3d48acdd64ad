-- A plan has one answer where its simpler plan has: over the tables in another row order its outcome agrees with one over the
-- tables as they are, and there both plans have the same outcomes.
use Rattle.std.proofs.Common.{sym, subst, Ok}
use Rattle.wd_value.specs.Rows.{table_at}
use Rattle.wd_schema.specs.Laws.{HasOneMeaning}
use Rattle.wd_accept.proofs.Verdicts.{every}
use Rattle.wd_laws.specs.Laws.{AgreeingIsAnEquivalence, PlanCommutes, SameTables}
use Rattle.wd_plan.specs.Fits.{fits}
use Rattle.wd_plan.specs.Outcomes.{Agree, outcome}
use Rattle.wd_plan.specs.Plans.{plan_of}
use Rattle.wd_query.specs.Laws.{HasOnePlan}
use Rattle.wd_resolve.specs.Laws.{PlansFit}
use Rattle.wd_rules.specs.Laws.{HasOneAnswer, ValidHasOne}
use Rattle.wd_simpler.specs.Laws.{SimplerIsAlike}
use Rattle.wd_simpler.specs.Simpler.{simpler}
use Rattle.wd_certain.specs.Certain.{IsCertainOf}
use Rattle.wd_certain.specs.Laws.{CertainHasOne, SimplerHasOne}
use Rattle.wd_certificate.specs.Certificates.{certificate_of}

pub simpler_has_one : AgreeingIsAnEquivalence → PlanCommutes → SimplerIsAlike → SimplerHasOne
simpler_has_one agreeing commutes is_alike tables plan fit one instance other c1 c2 meets same v1 v2 =
    let alike = is_alike tables plan instance fit meets in
    let renamed = commutes.renames plan instance other c2 same v2 in
    let own = renamed.0 in
    let valid = commutes.valid plan instance other c2 own same v2 renamed.1 in
    let as_they_are : SameTables instance instance = λ table. agreeing.itself (Ok (table_at instance table)) in
    let agree : Agree (outcome (simpler tables plan) instance c1) (outcome (simpler tables plan) instance own) = one instance instance c1 own meets as_they_are ((alike.valid c1).0 v1) ((alike.valid own).0 valid) in
    let first : Agree (outcome plan instance c1) (outcome plan instance own) =
    subst (λ o. Agree o (outcome plan instance own)) (sym (alike.same c1 v1)) (subst (Agree (outcome (simpler tables plan) instance c1)) (sym (alike.same own valid)) agree) in
    agreeing.on (outcome plan instance c1) (outcome plan instance own) (outcome plan other c2) first (commutes.same plan instance other c2 own same v2 renamed.1)

pub certain_has_one : HasOneMeaning → HasOnePlan → PlansFit → ValidHasOne → SimplerHasOne → CertainHasOne
certain_has_one one_meaning one_plan plans_fit valid_has_one has_one schema query certain is read reads =
    let here = every one_meaning one_plan schema query (IsCertainOf certain) is.0 read is.1 reads is.2 in
    has_one reads.tables read.plan (plans_fit reads.tables reads.tree read reads.means)
    (subst (HasOneAnswer reads.tables) here.simpler (valid_has_one reads.tables (plan_of certain.plan) (certificate_of certain.certificate) here.fits here.valid))
