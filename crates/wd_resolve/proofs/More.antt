-- What further outputs of a select list need beside those before them, and whether they are too wide.
use Rattle.std.proofs.Common.{◌≡◌, ◌∙◌, ap, ◌+◌, ◌≤◌, false, arith, List, [], ◌++◌, length, map}
use Rattle.std.proofs.lemmas.Bool.{ltb-false, or_parts}
use Rattle.std.proofs.lemmas.List.{length-map, map-append}
use Rattle.wd_plan.specs.Plans.{PlanTree}
use Rattle.wd_resolve_operand.specs.BoundExpressions.{BoundExpression}
use Rattle.wd_resolve_call.specs.References.{SelectReference}
use Rattle.wd_resolve_list.specs.declared.projected.ProjectedInputs.{ProjectedInputs as CodeProjectedInputs}
use Rattle.wd_resolve_list.specs.declared.output.Output.{Output}
use Rattle.wd_resolve_list.specs.SelectLists.{Below, ProjectedInputs, all_references, all_projected, are_wide, is_group_wide, is_wide, is_window_wide, projected_of, projected_shown, projected_with, row_place, with_having}
use Rattle.wd_resolve_list.specs.Outputs.{expressions_of, output_of}
use Rattle.wd_resolve_select.specs.Steps.{grouped_on, mapped, mapped_over}
use Rattle.wd_resolve_list.proofs.Counted.{many_listed, projected_more}
use Rattle.wd_resolve_list.proofs.Narrow.{narrow_below as narrow_parts}

pub projected_listed : (outputs more : List Output) → projected_of (expressions_of (map output_of (outputs ++ more))) ≡ projected_with (projected_of (expressions_of (map output_of outputs))) (all_references (expressions_of (map output_of more)))
projected_listed outputs more = ap (λ os. projected_of (expressions_of os)) (map-append output_of outputs more) ∙ projected_more (map output_of outputs) (map output_of more)

-- so many columns as outputs
many : (outputs : List Output) → length outputs ≡ length (expressions_of (map output_of outputs)) + 0
many outputs =
    let shown = many_listed (map output_of outputs) in
    let all = length-map outputs output_of in
    omega (arith, shown, all)

pub wide_listed : (below : Below) (outputs : List Output) (projected : CodeProjectedInputs) → projected_shown projected ≡ projected_of (expressions_of (map output_of outputs)) → is_wide (length outputs) below.grouped (with_having (projected_shown projected) below.having) ≡ are_wide below (expressions_of (map output_of outputs)) []
wide_listed below outputs projected h = λ i. is_wide (many outputs i) below.grouped (with_having (h i) below.having)

pub few_listed : (below : Below) (outputs : List Output) → are_wide below (expressions_of (map output_of outputs)) [] ≡ false → length outputs ≤ 1024
few_listed below outputs h =
    let same = many outputs in
    let few = ltb-false 1024 (length (expressions_of (map output_of outputs)) + 0) (or_parts _ _ h).0 in
    omega (arith, same, few)

-- the nodes below what is shown are not too wide
pub narrow_below : (below : Below) (outputs hidden : List (BoundExpression SelectReference)) (projected : ProjectedInputs) → projected ≡ all_projected below outputs hidden → are_wide below outputs hidden ≡ false → (is_window_wide projected ≡ false) × (is_group_wide below.grouped projected.groups ≡ false)
narrow_below below outputs hidden projected h g =
    let p = narrow_parts (length outputs + length hidden) below.grouped (all_projected below outputs hidden) g in
    (ap is_window_wide h ∙ p.0, ap (λ (n : ProjectedInputs). is_group_wide below.grouped n.groups) h ∙ p.1)

-- what is shown goes by what it needs
pub mapped_counted : (below : Below) (outputs hidden : List (BoundExpression SelectReference)) (projected : ProjectedInputs) (plan : PlanTree) → projected ≡ all_projected below outputs hidden
    → mapped_over (row_place below.grouped projected.groups) projected (outputs ++ hidden) (grouped_on below projected.groups plan) ≡ mapped below outputs hidden plan
mapped_counted below outputs hidden projected plan h = ap (λ (n : ProjectedInputs). mapped_over (row_place below.grouped n.groups) n (outputs ++ hidden) (grouped_on below n.groups plan)) h
