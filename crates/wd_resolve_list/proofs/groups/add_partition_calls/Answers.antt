use Rattle.std.proofs.lemmas.Grind.{common_steps}
use Rattle.std.proofs.Common.{◌≡◌, ◌∙◌, sym, ap, suc, ◌<◌, ◌+◌, ◌∷◌, add-one, arith, drop, length, map}
use Rattle.std.proofs.Math.Seq.{drop-cons}
use Rattle.wd_resolve_operand.specs.BoundExpressions.{references}
use Rattle.wd_resolve_call.specs.Rows.{row_expression_of, same_group_call}
use Rattle.wd_resolve_list.specs.SelectLists.{all_row_references, group_calls_among, shared_call, with_new}
use Rattle.wd_resolve_list.proofs.FirstMet.{groups_added}
use Rattle.wd_resolve_list.proofs.groups.add_partition_calls.Goals as goal

pub loop-expression-preserved : goal.loop-expression-preserved
loop-expression-preserved c =
    let all = c.args.expressions.now in
    let x = c.expression-item.result in
    let i = c.loop-expression.expression-index in
    let before = map shared_call c.loop-expression.calls.items in
    let here = references (row_expression_of x) in
    let rest = all_row_references (map row_expression_of (drop (i + 1) all)) in
    let within : i < length all = omega arith in
    let step : drop i all ≡ x ∷ drop (i + 1) all = drop-cons all i x within ∙ ap (λ o. o ∷ drop (suc i) all) (sym c.expression-item.is) ∙ ap (λ k. x ∷ drop k all) (sym (add-one i)) in
    ap (λ cs. with_new same_group_call cs (group_calls_among rest)) c.in_ok-add_row_calls.ensures
    ∙ sym (groups_added before here rest)
    ∙ ap (λ xs. with_new same_group_call before (group_calls_among (all_row_references (map row_expression_of (xs))))) (sym step)
    ∙ c.loop-expression.invariant

pub returns : goal.returns
returns c = grind (arith, common_steps, groups_added)
