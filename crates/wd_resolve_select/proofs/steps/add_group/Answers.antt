use Rattle.std.proofs.Common.{◌≡◌, ◌∙◌, ap, refl, subst, List, map, Some, option_map}
use Rattle.std.specs.Prelude.{IfOk}
use Rattle.wd_plan.specs.Plans.{PlanTree, plan_of}
use Rattle.wd_resolve_call.specs.Rows.{GroupCall}
use Rattle.wd_resolve_list.specs.Grouping.{below_of}
use Rattle.wd_resolve_list.specs.SelectLists.{Below, GroupedBy, grouped_by_of, row_place, shared_call}
use Rattle.wd_resolve_select.specs.Steps.{group_on, grouped_on, having_on}
use Rattle.wd_resolve_select.proofs.steps.add_group.Goals as goal

grouped_is : (below : Below) (g : GroupedBy) (calls : List GroupCall) (plan : PlanTree) → below.grouped ≡ Some g → having_on (row_place below.grouped calls) below.having (group_on g calls plan) ≡ grouped_on below calls plan
grouped_is below g calls plan h = rw h refl

pub returns : goal.returns
returns c =
    let below = below_of c.args.below.now in
    let calls = map shared_call c.args.projected.now.groups.items in
    let having = having_on (row_place below.grouped calls) below.having in
    let group = ap having (c.in_ok-plan.ensures ∙ ap (λ shared. group_on (grouped_by_of c.in-Some.grouped) (map shared_call shared) (plan_of c.args.plan)) c.deref.ensures.value) in
    let whole = grouped_is below (grouped_by_of c.in-Some.grouped) calls (plan_of c.args.plan) (ap (option_map grouped_by_of) c.in-Some.is) in
    subst (λ (t : PlanTree). IfOk c.having_on.result (λ p. plan_of p ≡ t)) (group ∙ whole) c.having_on.ensures
