use Rattle.std.proofs.Common.{refl, subst}
use Rattle.std.proofs.lemmas.Result.{IfOk-weaker}
use Rattle.wd_schema.specs.Schemas.{schema_of}
use Rattle.wd_plan.specs.Plans.{plan_of}
use Rattle.wd_resolve.specs.Answers.{resolved_of}
use Rattle.wd_decide.specs.Lists.{IsListVerdictOf, IsOfVerdict}
use Rattle.wd_decide.specs.Verdicts.{IsVerdictOf}
use Rattle.wd_decide.specs.declared.verdict.Verdict.TheVariants.{Deterministic, Depends, Unknown}
use Rattle.wd_decide.proofs.Lists.{certified_of}
use Rattle.wd_decide.proofs.verdict.Examined.list_verdict.Goals as goal

pub verdict_of_list-requires-clause-analysed : goal.verdict_of_list-requires-clause-analysed
verdict_of_list-requires-clause-analysed c =
    let tables = schema_of c.args.self.planned.schema in
    let plan = plan_of c.args.self.planned.resolved.plan in
    certified_of tables plan c.args.self.analysis c.in-Deterministic.certificate c.requires.analysed
    (subst (IsVerdictOf tables plan c.args.self.analysis) c.in-Deterministic.is (c.verdict_of.ensures tables plan (c.in_ok-witness.field-0-1, c.in_ok-witness.ensures.sought)))

pub returns-in-Deterministic : goal.returns-in-Deterministic
returns-in-Deterministic c =
    let tables = schema_of c.args.self.planned.schema in
    let plan = plan_of c.args.self.planned.resolved.plan in
    let read = resolved_of c.args.self.planned.resolved in
    IfOk-weaker c.verdict_of_list.result (IsOfVerdict tables read (Deterministic c.in-Deterministic.certificate)) (IsListVerdictOf tables read)
    (λ v h. record {
      analysis = c.args.self.analysis;
      verdict = Deterministic c.in-Deterministic.certificate;
      analysed = c.requires.analysed;
      of_analysis = subst (IsVerdictOf tables plan c.args.self.analysis) c.in-Deterministic.is (c.verdict_of.ensures tables plan (c.in_ok-witness.field-0-1, c.in_ok-witness.ensures.sought));
      of_verdict = h;
    })
    c.verdict_of_list.ensures

pub returns-in-Depends : goal.returns-in-Depends
returns-in-Depends c =
    let tables = schema_of c.args.self.planned.schema in
    let plan = plan_of c.args.self.planned.resolved.plan in
    record {
      analysis = c.args.self.analysis;
      verdict = Depends c.in-Depends.witness;
      analysed = c.requires.analysed;
      of_analysis = subst (IsVerdictOf tables plan c.args.self.analysis) c.in-Depends.is (c.verdict_of.ensures tables plan (c.in_ok-witness.field-0-1, c.in_ok-witness.ensures.sought));
      of_verdict = refl;
    }

pub returns : goal.returns
returns c =
    let tables = schema_of c.args.self.planned.schema in
    let plan = plan_of c.args.self.planned.resolved.plan in
    record {
      analysis = c.args.self.analysis;
      verdict = Unknown c.in-Unknown.reasons;
      analysed = c.requires.analysed;
      of_analysis = subst (IsVerdictOf tables plan c.args.self.analysis) c.in-Unknown.is (c.verdict_of.ensures tables plan (c.in_ok-witness.field-0-1, c.in_ok-witness.ensures.sought));
      of_verdict = refl;
    }
