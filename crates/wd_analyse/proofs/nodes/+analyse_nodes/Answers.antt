use Rattle.std.proofs.Common.{◌≡◌, true, ⊎_elim, map, option_map, refl, sym, ap, ◌∙◌}
use Rattle.std.proofs.lemmas.Result.{IfOk-weaker}
use Rattle.wd_schema.specs.Schemas.{schema_of}
use Rattle.wd_step_facts.specs.Facts.{fact_of}
use Rattle.wd_plan.specs.Expressions.{expression_of}
use Rattle.wd_plan.specs.Plans.{Join, plan_of}
use Rattle.wd_analyse.proofs.Composed.{both_finds, one_finds, scan_finds}
use Rattle.wd_analyse.proofs.Postorder.{child, is_over_one}
use Rattle.wd_analyse.proofs.nodes.+analyse_nodes.Goals as goal

pub returns-in-Scan : goal.returns-in-Scan
returns-in-Scan t c =
    IfOk-weaker c.analyse_top.result _ _
    (λ v top. scan_finds (schema_of c.args.schema.now) (plan_of c.args.plan.now) _ _ _ _ c.args.found.now c.analyse_top.new.found (map fact_of v.items) (ap plan_of c.in-Scan.is) refl refl top)
    c.analyse_top.ensures

pub returns-in_ok-right-in-Join : goal.returns-in_ok-right-in-Join
returns-in_ok-right-in-Join t c =
    IfOk-weaker c.analyse_top-in-Join.result _ _
    (λ v top. both_finds (schema_of c.args.schema.now) (plan_of c.args.plan.now) (plan_of c.deref.result.now) (plan_of c.deref-in-Join.result.now) (option_map expression_of c.in-Join.condition) _ _ (map fact_of c.in_ok-left-in-Join.left.items) (map fact_of c.in_ok-right-in-Join.right.items) _ _ _ _ (map fact_of v.items)
    (ap plan_of c.in-Join.is ∙ (λ i. Join (option_map expression_of c.in-Join.condition) (plan_of (sym c.deref.ensures i)) (plan_of (sym c.deref-in-Join.ensures i))))
    (ap (map fact_of) c.deref-in-Join-2.ensures.value) (ap (map fact_of) c.deref-in-Join-3.ensures.value)
    c.in_ok-left-in-Join.ensures c.in_ok-right-in-Join.ensures top)
    c.analyse_top-in-Join.ensures

pub returns-in_ok-below-in-Filter : goal.returns-in_ok-below-in-Filter
returns-in_ok-below-in-Filter t c =
    let over : (child (plan_of c.args.plan.now) ≡ plan_of c.in-Filter.input.value) × (is_over_one (plan_of c.args.plan.now) ≡ true) =
    ⊎_elim (λ h. (ap child (ap plan_of h.1), ap is_over_one (ap plan_of h.1)))
    (λ r. ⊎_elim (λ h. (ap child (ap plan_of h.1), ap is_over_one (ap plan_of h.1)))
    (λ r. ⊎_elim (λ h. (ap child (ap plan_of h.1), ap is_over_one (ap plan_of h.1)))
    (λ r. ⊎_elim (λ h. (ap child (ap plan_of h.1), ap is_over_one (ap plan_of h.1)))
    (λ r. ⊎_elim (λ h. (ap child (ap plan_of h), ap is_over_one (ap plan_of h)))
    (λ h. (ap child (ap plan_of h.1), ap is_over_one (ap plan_of h.1))) r) r) r) r) c.in-Filter.is in
    IfOk-weaker c.analyse_top-in-Filter.result _ _
    (λ v top. one_finds (schema_of c.args.schema.now) (plan_of c.args.plan.now) (plan_of c.deref-in-Filter.result.now) _ _ (map fact_of c.in_ok-below-in-Filter.below.items) _ _ _ (map fact_of v.items)
    (over.0 ∙ (λ i. plan_of (sym c.deref-in-Filter.ensures i))) over.1 (ap (map fact_of) c.deref-in-Filter-2.ensures.value) refl
    c.in_ok-below-in-Filter.ensures top)
    c.analyse_top-in-Filter.ensures
