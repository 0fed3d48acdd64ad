use Rattle.std.proofs.Common.{IfSome, None, Some, inr, subst}
use Rattle.wd_schema.specs.Schemas.{schema_of}
use Rattle.wd_plan.specs.Plans.{plan_of}
use Rattle.wd_witness_text.specs.Witnesses.{witness_of}
use Rattle.wd_refute.specs.Laws.{IsShown}
use Rattle.wd_further.specs.Finds.{IsSoughtIn}
use Rattle.wd_further.proofs.Reading.{for_reading, refuted}
use Rattle.wd_further.proofs.judge.find_in.Goals as goal

pub returns-in-None-clause-sought : goal.returns-in-None-clause-sought
returns-in-None-clause-sought c =
    let planned = c.args.planned.now in
    let none = subst (λ o. IsSoughtIn o (schema_of planned.schema) (plan_of planned.resolved.plan)) c.in-None.is c.in_ok-search.ensures.sought in
    inr (for_reading c.args.schema.now c.args.query.now planned (IsSoughtIn None) c.requires.read none)

pub returns-in_ok-text-in-Some-clause-found : goal.returns-in_ok-text-in-Some-clause-found
returns-in_ok-text-in-Some-clause-found c =
    let planned = c.args.planned.now in
    let w = witness_of c.in-Some.witness in
    let shown = subst (λ o. IfSome o (λ x. IsShown (schema_of planned.schema) (plan_of planned.resolved.plan) (witness_of x))) c.in-Some.is c.in_ok-search.ensures.shown in
    record {
      spelled = c.in_ok-text-in-Some.ensures.spells;
      refuted = refuted c.args.schema.now c.args.query.now planned w c.in_ok-text-in-Some.text.items c.requires.read shown c.in_ok-text-in-Some.ensures.spells;
    }

pub returns-in_ok-text-in-Some-clause-sought : goal.returns-in_ok-text-in-Some-clause-sought
returns-in_ok-text-in-Some-clause-sought c =
    let planned = c.args.planned.now in
    let some = subst (λ o. IsSoughtIn o (schema_of planned.schema) (plan_of planned.resolved.plan)) c.in-Some.is c.in_ok-search.ensures.sought in
    for_reading c.args.schema.now c.args.query.now planned (IsSoughtIn (Some c.in-Some.witness)) c.requires.read some
