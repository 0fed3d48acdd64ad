-- The verdict on a query of the plain class is never UNKNOWN.
use Rattle.std.proofs.Common.{◌≡◌, true, List, sym, subst}
use Rattle.wd_schema.specs.Laws.{HasOneMeaning}
use Rattle.wd_schema.specs.Tables.{TableRule}
use Rattle.wd_schema.specs.WellFormed.{IsWellFormed}
use Rattle.wd_schema.proofs.WellFormedFacts.{well_formed}
use Rattle.wd_plan.specs.Fits.{fits}
use Rattle.wd_plan.specs.Plans.{PlanTree}
use Rattle.wd_analyse.specs.Analysis.{IsAnswer}
use Rattle.wd_analyse.specs.declared.analysis.Analysis.{Analysis}
use Rattle.wd_analyse.specs.declared.analysis.Analysis.TheVariants.{Certified, Open}
use Rattle.wd_resolve.specs.Laws.{PlansFit}
use Rattle.wd_query.specs.Laws.{HasOnePlan}
use Rattle.wd_accept.proofs.Verdicts.{every}
use Rattle.wd_complete.specs.Laws.{IsPlainOver, OpenIsFound}
use Rattle.wd_complete.specs.Plain.{PlainPlan, plan_by}
use Rattle.wd_complete.specs.QueryLaws.{QueriesArePlain}
use Rattle.wd_decide.specs.Laws.{PlainAreDecided}
use Rattle.wd_decide.specs.Verdicts.{IsDecided, IsVerdictOf}
use Rattle.wd_decide.specs.declared.verdict.Verdict.{Verdict}
use Rattle.wd_decide.specs.declared.verdict.Verdict.TheVariants.{Deterministic, Depends, Unknown}

-- the verdict on a plain plan
decided_by : OpenIsFound → (tables : List TableRule) (p : PlainPlan) (analysis : Analysis) (verdict : Verdict) → IsPlainOver tables p → IsAnswer tables (plan_by p) analysis → IsVerdictOf tables (plan_by p) analysis verdict → IsDecided verdict
decided_by found tables p analysis (Deterministic certificate) over answer is = tt
decided_by found tables p analysis (Depends witness) over answer is = tt
decided_by found tables p (Certified certificate) (Unknown reasons) over answer is = is
decided_by found tables p (Open reasons marks) (Unknown others) over answer is = let e = is.1 in found tables p (Open reasons marks) e.0 over answer tt e.1

-- the plan has an analysis that gives the verdict
abbrev Gives : Verdict → List TableRule → PlanTree → Type 0
Gives verdict tables plan = (analysis : Analysis) × IsAnswer tables plan analysis × IsVerdictOf tables plan analysis verdict

pub plain_are_decided : HasOneMeaning → HasOnePlan → PlansFit → OpenIsFound → QueriesArePlain → PlainAreDecided
plain_are_decided one_meaning one_plan plans_fit found are_plain schema query verdict v read reads query_is =
    let here = every one_meaning one_plan schema query (Gives verdict) v.0 read v.1 reads v.2 in
    let plain = are_plain reads.tables reads.tree read query_is reads.means in
    let over : IsPlainOver reads.tables plain.plan = record {
      tables_are = subst IsWellFormed (sym reads.declares.are) (well_formed reads.declares.tree.tables reads.declares.kept);
      plain = plain.plain;
      fitting = subst (λ (x : PlanTree). fits reads.tables x ≡ true) plain.is (plans_fit reads.tables reads.tree read reads.means);
    } in
    decided_by found reads.tables plain.plan here.0 verdict over
    (subst (λ (x : PlanTree). IsAnswer reads.tables x here.0) plain.is here.1)
    (subst (λ (x : PlanTree). IsVerdictOf reads.tables x here.0 verdict) plain.is here.2)
