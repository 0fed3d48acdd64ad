use Rattle.std.proofs.Common.{◌∙◌, sym, ap, map}
use Rattle.wd_resolve_operand.specs.BoundExpressions.{references}
use Rattle.wd_resolve_call.specs.References.{bound_expression_of}
use Rattle.wd_resolve_list.specs.SelectLists.{ProjectedInputs, all_projected, projected_with}
use Rattle.wd_resolve_list.specs.Outputs.{expressions_of}
use Rattle.wd_resolve_select.specs.Sorting.{shown_of}
use Rattle.wd_resolve_list.proofs.Counted.{projected_pushed}
use Rattle.wd_resolve_select.proofs.sorting.with_column.Goals as goal

pub returns-clause-counted : goal.returns-clause-counted
returns-clause-counted c =
    let shown = shown_of c.args.shown.now in
    let outputs = expressions_of shown.outputs in
    c.in_ok-projected.ensures
    ∙ ap (λ (n : ProjectedInputs). projected_with n (references (bound_expression_of c.args.expression))) c.requires.counted
    ∙ sym (projected_pushed shown.below outputs c.args.sorted.hidden.items c.args.expression)
    ∙ ap (λ hidden. all_projected shown.below outputs (map bound_expression_of hidden)) (sym c.in_ok-push.ensures.items)
