use Rattle.std.proofs.Common.{◌∙◌, ap, subst, ◌≤◌, length, map, sym}
use Rattle.wd_resolve_list.specs.SelectLists.{grouped_by_of, group_inputs, shared_call}
use Rattle.wd_resolve_list.proofs.Narrow.{few_inputs}
use Rattle.wd_resolve_select.proofs.steps.group_on.Goals as goal

pub group_calls_over-requires-clause-few_inputs : goal.group_calls_over-requires-clause-few_inputs
group_calls_over-requires-clause-few_inputs c =
    let calls = map shared_call c.args.calls.now in
    let inputs = c.in_ok-inputs.ensures ∙ ap (λ columns. group_inputs columns calls) c.deref.ensures.value in
    subst (λ xs. length xs ≤ 1024) (sym c.deref-5.ensures.value) (few_inputs (grouped_by_of c.args.grouped.now) calls c.in_ok-inputs.inputs.items c.requires inputs)
