use Rattle.std.proofs.Common.{◌∙◌, sym}
use Rattle.wd_resolve_operand.proofs.Mapped.{rebased_over}
use Rattle.wd_resolve_call.specs.References.{bound_expression_of}
use Rattle.wd_resolve_call.proofs.Meanings.{ok_is}
use Rattle.wd_resolve_list.specs.Grouping.{below_of}
use Rattle.wd_resolve_list.specs.SelectLists.{projected_shown, place_in, row_place}
use Rattle.wd_resolve_select.proofs.rebased.rebase.Goals as goal

pub returns-in-Ok : goal.returns-in-Ok
returns-in-Ok c =
    let projected = projected_shown c.args.projected.now in
    ok_is _ _ (sym c.in-Ok.ensures ∙ rebased_over (place_in (row_place (below_of c.args.below.now).grouped projected.groups) projected.inputs projected.calls) (bound_expression_of c.args.expression.now))
