use Rattle.std.proofs.Common.{◌≡◌, ◌∙◌, ap, subst, map}
use Rattle.std.specs.Prelude.{IfOk}
use Rattle.std.proofs.lemmas.List.{map-append}
use Rattle.wd_plan.specs.Plans.{PlanTree, plan_of}
use Rattle.wd_resolve_call.specs.References.{bound_expression_of}
use Rattle.wd_resolve_list.specs.Grouping.{below_of}
use Rattle.wd_resolve_list.specs.SelectLists.{projected_shown, row_place}
use Rattle.wd_resolve_select.specs.Steps.{grouped_on, mapped_over}
use Rattle.wd_resolve.proofs.More.{mapped_counted, narrow_below}
use Rattle.wd_resolve.proofs.select.add_outputs.Goals as goal

pub add_map-requires-clause-few_inputs : goal.add_map-requires-clause-few_inputs
add_map-requires-clause-few_inputs c = (narrow_below (below_of c.args.below.now) (map bound_expression_of c.args.outputs.items) (map bound_expression_of c.args.hidden.items) (projected_shown c.args.projected) c.requires.counted c.requires.narrow).0

pub add_map-requires-clause-few_groups : goal.add_map-requires-clause-few_groups
add_map-requires-clause-few_groups c = (narrow_below (below_of c.args.below.now) (map bound_expression_of c.args.outputs.items) (map bound_expression_of c.args.hidden.items) (projected_shown c.args.projected) c.requires.counted c.requires.narrow).1

pub returns : goal.returns
returns c =
    let below = below_of c.args.below.now in
    let projected = projected_shown c.args.projected in
    let rows = grouped_on below projected.groups (plan_of c.args.plan) in
    let whole = ap (map bound_expression_of) c.in_ok-append.ensures.items ∙ map-append bound_expression_of c.args.outputs.items c.args.hidden.items in
    let shown = mapped_counted below (map bound_expression_of c.args.outputs.items) (map bound_expression_of c.args.hidden.items) projected (plan_of c.args.plan) c.requires.counted in
    subst (λ (t : PlanTree). IfOk c.add_map.result (λ p. plan_of p ≡ t)) (ap (λ expressions. mapped_over (row_place below.grouped projected.groups) projected expressions rows) whole ∙ shown) c.add_map.ensures
