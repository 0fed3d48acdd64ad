use Rattle.std.proofs.Common.{◌≡◌, ◌∙◌, ◌<◌, ◌≤◌, refl, sym, ap, subst, length, MatchOption, arith}
use Rattle.std.proofs.lemmas.Result.{err_from_is_err_and}
use Rattle.wd_value.specs.Rows.{instance_of}
use Rattle.wd_eval.specs.Windows.{orderings_of}
use Rattle.wd_plan.specs.Plans.{plan_of, ordering_count}
use Rattle.wd_plan.proofs.Ranges.{names_classes}
use Rattle.wd_schema.specs.Schemas.{schema_of}
use Rattle.wd_nodes.specs.Held.{IsHeld, IsHeldForSome}
use Rattle.wd_nodes.proofs.Held.{same_for_some, same_held}
use Rattle.wd_eval.specs.Nodes.{IsEvaluated, IsStopped}
use Rattle.wd_eval.proofs.Wrong.{stopped_refused, surplus_refused}
use Rattle.wd_eval.proofs.eval.given_within.Goals as goal

pub evaluate-requires-clause-named : goal.evaluate-requires-clause-named
evaluate-requires-clause-named c = names_classes (schema_of c.args.schema.now) (plan_of c.args.plan.now) c.requires.fits

pub evaluate-requires-clause-held : goal.evaluate-requires-clause-held
evaluate-requires-clause-held c =
    let plan = plan_of c.args.plan.now in
    let tables = c.of_rows-tables.result in
    subst (IsHeldForSome plan tables) (sym c.nothing.ensures) (same_for_some plan tables)

pub returns-in_err-given-clause-refused : goal.returns-in_err-given-clause-refused
returns-in_err-given-clause-refused c =
    let p = err_from_is_err_and c.from_residual.result c.from_residual.ensures.1 in
    let e = c.in_err-given.field-0.0 in
    let plan = plan_of c.args.plan.now in
    let tables = c.of_rows-tables.result in
    let held = subst (λ m. IsHeld plan tables m tables) (sym c.nothing.ensures) (same_held plan tables) in
    let stopped = (c.in_err-given.ensures.walked tables held).refused.chosen c.args.most (orderings_of c.deref.result.now) 0 (refl, refl, refl) in
    let h = subst (λ os. IsStopped c.args.most plan (instance_of c.args.instance.now.items) (orderings_of os) 0 e) c.deref.ensures.value
    (subst (λ ts. IsStopped c.args.most plan ts (orderings_of c.deref.result.now) 0 e) (c.of_rows-tables.ensures ∙ ap instance_of c.deref-2.ensures.value) stopped) in
    rw (p.1, p.2) (stopped_refused plan (instance_of c.args.instance.now.items) (orderings_of c.args.choice.now.orderings.items) c.args.most e h)

pub returns-in-Some-clause-refused : goal.returns-in-Some-clause-refused
returns-in-Some-clause-refused c =
    let plan = plan_of c.args.plan.now in
    let tables = c.of_rows-tables.result in
    let instance = instance_of c.args.instance.now.items in
    let choice = orderings_of c.args.choice.now.orderings.items in
    let held = subst (λ m. IsHeld plan tables m tables) (sym c.nothing.ensures) (same_held plan tables) in
    let x = (c.in_ok-given.ensures.walked tables held).ok.chosen c.args.most (orderings_of c.deref.result.now) 0 (refl, refl, refl) in
    let o = c.in_ok-given.given in
    let number = c.in-Some.number in
    let e = subst (λ os. IsEvaluated c.args.most plan instance instance (orderings_of os) 0 (record { outcome = o; next = x.0 })) c.deref.ensures.value
    (subst (λ ts. IsEvaluated c.args.most plan ts ts (orderings_of c.deref.result.now) 0 (record { outcome = o; next = x.0 })) (c.of_rows-tables.ensures ∙ ap instance_of c.deref-2.ensures.value) x.2) in
    let over = subst (λ r. MatchOption r (length (orderings_of c.deref.result.now) ≤ x.0) (λ n. (n ≡ x.0) × (x.0 < length (orderings_of c.deref.result.now)))) c.in-Some.is (c.left_over.ensures c.args.most (orderings_of c.deref.result.now) x.0 x.1) in
    let same = ap (λ os. length (orderings_of os)) c.deref.ensures.value in
    let next = e.next in
    let at = over.0 in
    let low = over.1 in
    let here : number ≡ ordering_count plan = omega arith in
    let after : number < length choice = omega arith in
    surplus_refused plan instance choice number e.served here after

pub returns-clause-outcome : goal.returns-clause-outcome
returns-clause-outcome c =
    let plan = plan_of c.args.plan.now in
    let tables = c.of_rows-tables.result in
    let instance = instance_of c.args.instance.now.items in
    let choice = orderings_of c.args.choice.now.orderings.items in
    let held = subst (λ m. IsHeld plan tables m tables) (sym c.nothing.ensures) (same_held plan tables) in
    let x = (c.in_ok-given.ensures.walked tables held).ok.chosen c.args.most (orderings_of c.deref.result.now) 0 (refl, refl, refl) in
    let o = c.in_ok-given.given in
    let e = subst (λ os. IsEvaluated c.args.most plan instance instance (orderings_of os) 0 (record { outcome = o; next = x.0 })) c.deref.ensures.value
    (subst (λ ts. IsEvaluated c.args.most plan ts ts (orderings_of c.deref.result.now) 0 (record { outcome = o; next = x.0 })) (c.of_rows-tables.ensures ∙ ap instance_of c.deref-2.ensures.value) x.2) in
    let over = subst (λ r. MatchOption r (length (orderings_of c.deref.result.now) ≤ x.0) (λ n. (n ≡ x.0) × (x.0 < length (orderings_of c.deref.result.now)))) c.in-None.is (c.left_over.ensures c.args.most (orderings_of c.deref.result.now) x.0 x.1) in
    let same = ap (λ os. length (orderings_of os)) c.deref.ensures.value in
    let next = e.next in
    let there = e.served.present in
    let number : length choice ≡ ordering_count plan = omega arith in
    record { valid = record { number = number; lawful = e.served.lawful }; small = e.each; is = e.is }
