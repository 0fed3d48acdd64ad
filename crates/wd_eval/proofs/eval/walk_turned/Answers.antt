use Rattle.std.proofs.Common.{◌∙◌, [], true, refl, sym, ap, subst}
use Rattle.std.proofs.lemmas.Result.{err_from_is_err_and}
use Rattle.wd_plan.proofs.Ranges.{names_classes}
use Rattle.wd_schema.specs.Schemas.{schema_of}
use Rattle.wd_value.specs.Rows.{instance_of}
use Rattle.wd_plan.specs.Plans.{plan_of}
use Rattle.wd_nodes.specs.Held.{IsHeld, IsHeldForSome}
use Rattle.wd_nodes.specs.Relation.{relation_or_fault_of}
use Rattle.wd_nodes.proofs.Held.{same_for_some, same_held}
use Rattle.wd_eval.specs.Runs.{IsUnderTurned}
use Rattle.wd_eval.specs.Ties.{IsUntied}
use Rattle.wd_eval.specs.Windows.{orderings_of}
use Rattle.wd_eval.proofs.SomeTied.{refused_from}
use Rattle.wd_eval.proofs.Tying.{under_turned}
use Rattle.wd_eval.proofs.eval.walk_turned.Goals as goal

pub evaluate-requires-clause-named : goal.evaluate-requires-clause-named
evaluate-requires-clause-named c = names_classes (schema_of c.args.schema.now) (plan_of c.args.plan.now) c.requires

pub evaluate-requires-clause-held : goal.evaluate-requires-clause-held
evaluate-requires-clause-held c =
    let plan = plan_of c.args.plan.now in
    let tables = c.of_rows-tables.result in
    subst (IsHeldForSome plan tables) (sym c.nothing.ensures) (same_for_some plan tables)

pub returns-in_err-given-clause-refused : goal.returns-in_err-given-clause-refused
returns-in_err-given-clause-refused c =
    let p = err_from_is_err_and c.from_residual.result c.from_residual.ensures.1 in
    let e = c.in_err-given.field-0.0 in
    let plan = plan_of c.args.plan.now in
    let tables = c.of_rows-tables.result in
    let held = subst (λ m. IsHeld plan tables m tables) (sym c.nothing.ensures) (same_held plan tables) in
    let halted = (c.in_err-given.ensures.walked tables held).refused in
    let untied = halted.sorted true c.args.turned [] (refl, refl, ap orderings_of c.new.ensures.items) in
    let h = subst (λ ts. IsUntied plan ts c.args.turned 0 e) (c.of_rows-tables.ensures ∙ ap instance_of c.deref.ensures.value) untied in
    rw (p.1, p.2) (refused_from plan (instance_of c.args.instance.now.items) c.args.turned e h)

pub returns-clause-walked : goal.returns-clause-walked
returns-clause-walked c =
    let plan = plan_of c.args.plan.now in
    let own = c.of_rows-tables.result in
    let held = subst (λ m. IsHeld plan own m own) (sym c.nothing.ensures) (same_held plan own) in
    let o = c.in_ok-given.given in
    let walked = (c.in_ok-given.ensures.walked own held).ok in
    let x = walked.sorted true c.args.turned [] (refl, refl, ap orderings_of c.new.ensures.items) in
    let made = c.into_made-orderings.ensures c.args.turned x.0 x.1 in
    let under = under_turned plan own own c.args.turned x.0 o x.2 in
    subst (λ i. IsUnderTurned plan i c.args.turned (orderings_of c.into_made-orderings.result.items) (relation_or_fault_of i o)) (c.of_rows-tables.ensures ∙ ap instance_of c.deref.ensures.value)
    (subst (λ os. IsUnderTurned plan own c.args.turned os (relation_or_fault_of own o)) (sym made) under)
