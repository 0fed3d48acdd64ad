use Rattle.std.proofs.lemmas.Grind.{common_steps}
use Rattle.std.proofs.Common.{◌≡◌, ◌∙◌, sym, ap, suc, ◌<◌, ◌+◌, ◌∷◌, add-one, arith, drop, length, map}
use Rattle.std.proofs.Math.Seq.{drop-cons}
use Rattle.wd_resolve_operand.specs.BoundExpressions.{references}
use Rattle.wd_resolve_call.specs.References.{bound_expression_of}
use Rattle.wd_resolve_list.specs.SelectLists.{all_references, projected_shown, projected_with}
use Rattle.wd_resolve_list.specs.Outputs.{expressions_of, output_of}
use Rattle.wd_resolve_list.proofs.FirstMet.{projected_append, calls_added, inputs_added, read_added}
use Rattle.wd_resolve_list.proofs.projected.ProjectedInputs.add_each.Goals as goal

pub loop-output-preserved : goal.loop-output-preserved
loop-output-preserved c =
    let outputs = c.args.outputs.now in
    let output = c.output-item.result in
    let i = c.loop-output.output-index in
    let before = projected_shown c.loop-output.self in
    let here = references (bound_expression_of output.expression) in
    let rest = all_references (expressions_of (map output_of (drop (i + 1) outputs))) in
    let within : i < length outputs = omega arith in
    let step : drop i outputs ≡ output ∷ drop (i + 1) outputs = drop-cons outputs i output within ∙ ap (λ o. o ∷ drop (suc i) outputs) (sym c.output-item.is) ∙ ap (λ k. output ∷ drop k outputs) (sym (add-one i)) in
    ap (λ n. projected_with n rest) c.in_ok-add_references.ensures
    ∙ sym (projected_append before here rest)
    ∙ ap (λ os. projected_with before (all_references (expressions_of (map output_of os)))) (sym step)
    ∙ c.loop-output.invariant

pub returns : goal.returns
returns c = grind (arith, common_steps, calls_added, inputs_added, read_added)
