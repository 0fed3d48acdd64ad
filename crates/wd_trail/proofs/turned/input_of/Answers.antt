use Rattle.std.proofs.Common.{◌≡◌, ◌∙◌, map, sym, ap, ⊎_elim}
use Rattle.wd_plan.specs.Expressions.{expression_of}
use Rattle.wd_plan.specs.Plans.{Distinct, Filter, Group, Limit, Map, Over, Step, Window, grouping_of, limit_of, plan_of, window_of}
use Rattle.wd_trail.proofs.turned.input_of.Goals as goal

pub returns-in-Filter : goal.returns-in-Filter
returns-in-Filter c =
    let plan = plan_of c.args.plan.now in
    let input = plan_of c.in-Filter.input.value in
    let IsOver : Step → Type 0 = λ step. plan ≡ Over step input in
    let over : (step : Step) × IsOver step =
    ⊎_elim (λ h. (Filter (expression_of h.0), ap plan_of h.1))
    (λ r. ⊎_elim (λ h. (Map (map expression_of h.0.items), ap plan_of h.1))
    (λ r. ⊎_elim (λ h. (Group (grouping_of h.0), ap plan_of h.1))
    (λ r. ⊎_elim (λ h. (Window (window_of h.0), ap plan_of h.1))
    (λ r. ⊎_elim (λ h. (Distinct, ap plan_of h))
    (λ h. (Limit (limit_of h.0), ap plan_of h.1)) r) r) r) r) c.in-Filter.is in
    (over.0, over.1 ∙ ap (λ p. Over over.0 (plan_of p)) (sym c.deref.ensures))
