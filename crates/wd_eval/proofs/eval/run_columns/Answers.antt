use Rattle.std.proofs.Common.{◌∙◌, [], false, None, refl, sym, subst}
use Rattle.std.proofs.lemmas.Result.{err_from_is_err_and}
use Rattle.wd_plan.proofs.Ranges.{names_classes}
use Rattle.wd_schema.specs.Schemas.{schema_of}
use Rattle.wd_plan.specs.Plans.{plan_of}
use Rattle.wd_nodes.specs.Held.{IsHeld}
use Rattle.wd_eval.proofs.SomeTied.{refused_from}
use Rattle.wd_eval.proofs.Tying.{stable_outcome, tied_valid}
use Rattle.wd_eval.proofs.eval.run_columns.Goals as goal

pub evaluate-requires-clause-named : goal.evaluate-requires-clause-named
evaluate-requires-clause-named c = names_classes (schema_of c.args.schema.now) (plan_of c.args.plan.now) c.requires

pub evaluate-requires-clause-held : goal.evaluate-requires-clause-held
evaluate-requires-clause-held c =
    let plan = plan_of c.args.plan.now in
    let instance = c.args.tables.items in
    record { instance = instance; held = subst (λ ts. IsHeld plan ts c.in_ok-moved_in.moved_in instance) (sym (c.of_columns-others.ensures ∙ c.deref.ensures.value)) c.in_ok-moved_in.ensures }

pub returns-in_err-given : goal.returns-in_err-given
returns-in_err-given c =
    let p = err_from_is_err_and c.from_residual-in_err-given.result c.from_residual-in_err-given.ensures.1 in
    let e = c.in_err-given.field-0.0 in
    let plan = plan_of c.args.plan.now in
    let instance = c.args.tables.items in
    let held = subst (λ ts. IsHeld plan ts c.in_ok-moved_in.moved_in instance) (sym (c.of_columns-others.ensures ∙ c.deref.ensures.value)) c.in_ok-moved_in.ensures in
    let untied = (c.in_err-given.ensures.walked instance held).refused.sorted false None [] (refl, refl) in
    rw (p.1, p.2) (record { ok = tt; refused = refused_from plan instance None e untied })

pub returns : goal.returns
returns c =
    let plan = plan_of c.args.plan.now in
    let instance = c.args.tables.items in
    let others = c.of_columns-others.result in
    let held = subst (λ ts. IsHeld plan ts c.in_ok-moved_in.moved_in instance) (sym (c.of_columns-others.ensures ∙ c.deref.ensures.value)) c.in_ok-moved_in.ensures in
    let given = c.in_ok-given.given in
    let x = (c.in_ok-given.ensures.walked instance held).ok.sorted false None [] (refl, refl) in
    record {
      ok = record { choice = x.0; tied = (tied_valid plan others instance None x.0 given x.2).tied; outcome = stable_outcome plan others instance None x.0 given x.2 c.in_ok-answer.answer c.in_ok-answer.ensures };
      refused = tt;
    }
