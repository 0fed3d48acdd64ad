use Rattle.std.proofs.lemmas.Grind.{common_steps}
use Rattle.std.proofs.Common.{◌≡◌, ◌∙◌, sym, ap, suc, ◌<◌, ◌+◌, [], ◌∷◌, add-one, arith, drop, length, map}
use Rattle.std.proofs.Math.Seq.{drop-cons}
use Rattle.wd_resolve_call.specs.References.{reference_of}
use Rattle.wd_resolve_list.specs.SelectLists.{projected_shown, projected_with}
use Rattle.wd_resolve_list.proofs.FirstMet.{projected_append, calls_added, inputs_added, read_added}
use Rattle.wd_resolve_list.proofs.projected.ProjectedInputs.add_references.Goals as goal

pub loop-reference-preserved : goal.loop-reference-preserved
loop-reference-preserved c =
    let references = c.as_slice-reference-items.result.now in
    let reference = c.reference-item.result in
    let i = c.loop-reference.reference-index in
    let before = projected_shown c.loop-reference.self in
    let rest = map (λ k. reference_of k.now) (drop (i + 1) references) in
    let within : i < length references = omega arith in
    let step : drop i references ≡ reference ∷ drop (i + 1) references = drop-cons references i reference within ∙ ap (λ l. l ∷ drop (suc i) references) (sym c.reference-item.is) ∙ ap (λ k. reference ∷ drop k references) (sym (add-one i)) in
    ap (λ n. projected_with n rest) c.in_ok-add_reference.ensures
    ∙ sym (projected_append before (reference_of reference.now ∷ []) rest)
    ∙ ap (λ ls. projected_with before (map (λ k. reference_of k.now) ls)) (sym step)
    ∙ c.loop-reference.invariant

pub returns : goal.returns
returns c = grind (arith, common_steps, calls_added, inputs_added, read_added)
